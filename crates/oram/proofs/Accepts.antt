-- When a call is accepted, and that a small Oram never refuses by 8.
use Rattle.std.proofs.Common.{◌≡◌, ℕ, zero, suc, ◌+◌, ◌*◌, ◌^◌, ◌<◌, ◌≤◌, Bool, true, false, cond, eqb, ltb, leb, List, [], ◌∷◌, map, length, get_or, drop, IfSome, Some, None, Option, sym, refl, ap, ◌∙◌, subst, mul-zero, mul-suc, arith}
use Rattle.std.proofs.ByRecursion.{All-get_or}
use Rattle.std.proofs.lemmas.List.{get_or-drop, length-map}
use Rattle.std.proofs.lemmas.Option.{none-some}
use Rattle.std.proofs.lemmas.Bool.{and_from, eq-eqb, le-leb, lt-ltb, ne_eqb}
use Rattle.tree.specs.Blocks.{capacity}
use Rattle.tree.specs.Entries.{drain_moves, request_moves}
use Rattle.tree.specs.Queues.{queued}
use Rattle.steps.proofs.Order.{order_kept}
use Rattle.store.specs.declared.interface.BucketStore.{Ghosts as StoreMeaning}
use Rattle.posmap.specs.declared.interface.PositionMap.{Ghosts as MapMeaning}
use Rattle.posmap.specs.Maps.{Card, MapRow, Names, coins_below, drain_refusal, leaf_refusal, log_refusal, naming, no_row, or_else, row_at, stopped, swap_refusal, unless}
use Rattle.front.specs.Fronts.{deeper}
use Rattle.history.specs.Histories.{Call, opening, getting, putting, draining, tearing, Leaves}
use Rattle.oram.specs.declared.oram.Oram.{Oram}
use Rattle.oram.specs.Calls.{Outcome, refused, did, ask_time, is_done, open_time, refusal_in, refusal_of, request_refusal}
use Rattle.oram.specs.Orams.{Ordered, depths_of, full_of, records_of, row_of, rows_of, unfit_of}
use Rattle.oram.specs.Worked.{Acceptable, Small}

-- what is in range passes the test of the leaves
coins_below_lem : (D k : ℕ) (coins : List ℕ) → ((i : ℕ) → i < k → get_or coins i 0 < 2 ^ D) → coins_below D k coins ≡ true
coins_below_lem D zero coins h = refl
coins_below_lem D (suc k) [] h = refl
coins_below_lem D (suc k) (m ∷ ms) h =
    and_from (ltb m (2 ^ D)) (coins_below D k ms) (lt-ltb m (2 ^ D) (h 0 (omega arith))) (coins_below_lem D k ms (λ i l. h (suc i) (omega arith)))

pub leaves_pass : (share q : ℕ) (rows : List MapRow) (coins : List ℕ)
    → ((r i : ℕ) → r < length (map (λ row. row.depth) rows) → i < share → get_or coins (share * r + i) 0 < 2 ^ get_or (map (λ row. row.depth) rows) r 0)
    → leaf_refusal share q rows coins ≡ None
leaves_pass share q [] coins h = refl
leaves_pass share q (row ∷ rows) coins h =
    rw (coins_below_lem row.depth share coins (λ i l. let z : share * 0 + i ≡ i = omega (arith, mul-zero share) in rw z at (h 0 i (omega arith) l)))
    (leaves_pass share (suc q) rows (drop share coins)
    (λ r i k l.
    let z : share * suc r + i ≡ share + (share * r + i) = omega (arith, mul-suc share r) in
    rw (get_or-drop share coins (share * r + i) 0) (rw z at (h (suc r) i (omega arith) l))))

pub logs_pass : (moves : ℕ → ℕ) (q : ℕ) (rows : List MapRow)
    → ((r : ℕ) → r < length rows → length (row_at rows r).log + moves (row_at rows r).depth ≤ (row_at rows r).span)
    → log_refusal moves q rows ≡ None
logs_pass moves q [] h = refl
logs_pass moves q (row ∷ rows) h =
    rw (le-leb (length row.log + moves row.depth) row.span (h 0 (omega arith)))
    (logs_pass moves (suc q) rows (λ r l. h (suc r) (omega arith)))

-- a request against which nothing else stands is refused by a full queue or not at all
pub swap_full : (leaves : List ℕ) (rows : List MapRow) (unfit full : Option ℕ) (n : ℕ) (coins : List ℕ) → unfit ≡ None → n < length leaves
    → Leaves 3 (map (λ row. row.depth) rows) coins
    → ((r : ℕ) → r < length rows → length (row_at rows r).log + request_moves (row_at rows r).depth ≤ (row_at rows r).span)
    → swap_refusal leaves rows unfit full n 0 coins ≡ naming 8 full
swap_full leaves rows unfit full n coins fit l right free =
    let long : length coins ≡ 3 * length rows = right.0 ∙ ap (λ k. 3 * k) (length-map rows (λ row. row.depth)) in
    rw (fit, lt-ltb n (length leaves) l, eq-eqb (length coins) (3 * length rows) long, leaves_pass 3 0 rows coins right.1, logs_pass request_moves 0 rows free) refl

pub drain_passes : (rows : List MapRow) (unfit : Option ℕ) (coins : List ℕ) → unfit ≡ None → Leaves 1 (map (λ row. row.depth) rows) coins
    → ((r : ℕ) → r < length rows → length (row_at rows r).log + drain_moves (row_at rows r).depth ≤ (row_at rows r).span)
    → drain_refusal rows unfit coins ≡ None
drain_passes rows unfit coins fit right free =
    let long : length coins ≡ 1 * length rows = right.0 ∙ ap (λ k. 1 * k) (length-map rows (λ row. row.depth)) in
    rw (fit, eq-eqb (length coins) (1 * length rows) long, leaves_pass 1 0 rows coins right.1, logs_pass drain_moves 0 rows free) refl

-- no refusal: the call is done
pub none_done : {R : Type 0} (outcome : Outcome R) → refusal_in outcome ≡ None → is_done outcome ≡ true
none_done (did x) e = refl
none_done (refused c) e = absurd (none-some _ (sym e))

none_or : {X : Type 0} {a b : Option X} → a ≡ None → b ≡ None → or_else a b ≡ None
none_or {a = a} {b = b} e f = ap (λ x. or_else x b) e ∙ f

room_of : (b : Bool) (full : Option ℕ) → b ≡ false → full ≡ None → cond b (Some 0) (deeper full) ≡ None
room_of b full e f = rw (e, f) refl

nothing_full : (full : Option ℕ) (rows : List MapRow) → Names full rows → IfSome full (λ r. capacity ≤ length (row_at rows r).own)
    → Small rows → full ≡ None
nothing_full None rows h k small = refl
nothing_full (Some r) rows h k small =
    let l = All-get_or (λ row. length row.own < capacity) rows r no_row h small in
    absurd (let n : ⊥ = omega arith in n)

module _ {K S P F : Type 0} (store : StoreMeaning S) (maps : MapMeaning P F) (coins : List ℕ) (o : Oram K S P) where
  -- a request for record n
  request_accepted : (n : ℕ) → unfit_of store maps o ≡ None → n < records_of maps o → Leaves 3 (depths_of store maps o) coins
      → ((r : ℕ) → r < length (rows_of store maps o) → length (row_at (rows_of store maps o) r).log + request_moves (row_at (rows_of store maps o) r).depth ≤ (row_at (rows_of store maps o) r).span)
      → full_of maps o ≡ None → request_refusal store maps o n coins ≡ None
  request_accepted n fit l right free room =
      swap_full (maps.leaves o.front.below) (rows_of store maps o) (unfit_of store maps o) (full_of maps o) n coins fit l right free ∙ ap (naming 8) room

  ask_in_time : (n : ℕ) → (o.opened ≡ records_of maps o) × (n < records_of maps o) → ask_time (records_of maps o) o.opened n ≡ None
  ask_in_time n t = rw (lt-ltb n (records_of maps o) t.1, eq-eqb o.opened (records_of maps o) t.0) refl

  open_in_time : o.opened < records_of maps o → open_time (records_of maps o) o.opened ≡ None
  open_in_time l = rw (lt-ltb o.opened (records_of maps o) l) refl

  pub accepted : (call : Call K) → Acceptable store maps coins o call → refusal_of store maps o call coins ≡ None
  accepted opening a =
      none_or (ap (naming 1) a.fit)
      (none_or (open_in_time a.in_time) (request_accepted o.opened a.fit a.in_time a.right a.free a.room))
  accepted (getting n) a =
      none_or (ap (naming 1) a.fit)
      (none_or (ask_in_time n a.in_time) (request_accepted n a.fit a.in_time.1 a.right a.free a.room))
  accepted (putting n x) a =
      none_or (ap (naming 1) a.fit)
      (none_or (ask_in_time n a.in_time) (request_accepted n a.fit a.in_time.1 a.right a.free a.room))
  accepted draining a = drain_passes (rows_of store maps o) (unfit_of store maps o) coins a.fit a.right a.free
  accepted tearing a = refl

  -- in a small Oram no queue is full
  pub small_room : Ordered store maps o → Small (rows_of store maps o) → full_of maps o ≡ None
  small_room ord small =
      let b = o.front.below in
      let few = order_kept.never_full o.front.row.depth (maps.leaves b) (row_of store o) ord.1 small.0 in
      let f = maps.facts b in
      room_of (eqb (length (queued o.front.row.queue)) capacity) (maps.full b) (ne_eqb _ _ (λ e. omega arith))
      (nothing_full (maps.full b) (maps.rows b) f.full_named (f.small_never_full ord.0) small.1)

-- a refusal whose number is at most 7
abbrev Early : Option Card → Type 0
Early o = IfSome o (λ c. c.number ≤ 7)

early_or : (a b : Option Card) → Early a → Early b → Early (or_else a b)
early_or None b h k = k
early_or (Some c) b h k = h

early_test : (b : Bool) (c : Card) → c.number ≤ 7 → Early (unless b c)
early_test true c h = tt
early_test false c h = h

early_named : (n : ℕ) (o : Option ℕ) → n ≤ 7 → Early (naming n o)
early_named n None h = tt
early_named n (Some r) h = h

early_leaf : (share q : ℕ) (rows : List MapRow) (coins : List ℕ) → Early (leaf_refusal share q rows coins)
early_leaf share q [] coins = tt
early_leaf share q (row ∷ rows) coins =
    early_or (unless (coins_below row.depth share coins) (record { number = 6; row = stopped q })) (leaf_refusal share (suc q) rows (drop share coins))
    (early_test (coins_below row.depth share coins) _ (omega arith)) (early_leaf share (suc q) rows (drop share coins))

early_log : (moves : ℕ → ℕ) (q : ℕ) (rows : List MapRow) → Early (log_refusal moves q rows)
early_log moves q [] = tt
early_log moves q (row ∷ rows) =
    early_or (unless (leb (length row.log + moves row.depth) row.span) (record { number = 7; row = stopped q })) (log_refusal moves (suc q) rows)
    (early_test (leb (length row.log + moves row.depth) row.span) _ (omega arith)) (early_log moves (suc q) rows)

early_swap : (leaves : List ℕ) (rows : List MapRow) (unfit full : Option ℕ) (n : ℕ) (coins : List ℕ) → full ≡ None
    → Early (swap_refusal leaves rows unfit full n 0 coins)
early_swap leaves rows unfit full n coins e =
    early_or (naming 1 unfit) _ (early_named 1 unfit (omega arith))
    (early_or (unless (ltb n (length leaves)) _) _ (early_test (ltb n (length leaves)) _ (omega arith))
    (early_or (unless (eqb (length coins) (3 * length rows)) _) _ (early_test (eqb (length coins) (3 * length rows)) _ (omega arith))
    (early_or (leaf_refusal 3 0 rows coins) _ (early_leaf 3 0 rows coins)
    (early_or (log_refusal request_moves 0 rows) _ (early_log request_moves 0 rows) (rw e tt)))))

early_drain : (rows : List MapRow) (unfit : Option ℕ) (coins : List ℕ) → Early (drain_refusal rows unfit coins)
early_drain rows unfit coins =
    early_or (naming 1 unfit) _ (early_named 1 unfit (omega arith))
    (early_or (unless (eqb (length coins) (1 * length rows)) _) _ (early_test (eqb (length coins) (1 * length rows)) _ (omega arith))
    (early_or (leaf_refusal 1 0 rows coins) _ (early_leaf 1 0 rows coins) (early_log drain_moves 0 rows)))

module _ {K S P F : Type 0} (store : StoreMeaning S) (maps : MapMeaning P F) (coins : List ℕ) (o : Oram K S P) where
  ask_early : (n : ℕ) → Early (ask_time (records_of maps o) o.opened n)
  ask_early n =
      early_or (unless (ltb n (records_of maps o)) _) _ (early_test (ltb n (records_of maps o)) _ (omega arith))
      (early_test (eqb o.opened (records_of maps o)) _ (omega arith))

  request_early : (n : ℕ) → full_of maps o ≡ None → Early (request_refusal store maps o n coins)
  request_early n e = early_swap (maps.leaves o.front.below) (rows_of store maps o) (unfit_of store maps o) (full_of maps o) n coins e

  -- with no queue full no call is refused by 8
  early : (call : Call K) → full_of maps o ≡ None → Early (refusal_of store maps o call coins)
  early opening e =
      early_or (naming 1 (unfit_of store maps o)) _ (early_named 1 (unfit_of store maps o) (omega arith))
      (early_or (open_time (records_of maps o) o.opened) _ (early_test (ltb o.opened (records_of maps o)) _ (omega arith)) (request_early o.opened e))
  early (getting n) e =
      early_or (naming 1 (unfit_of store maps o)) _ (early_named 1 (unfit_of store maps o) (omega arith))
      (early_or (ask_time (records_of maps o) o.opened n) _ (ask_early n) (request_early n e))
  early (putting n x) e =
      early_or (naming 1 (unfit_of store maps o)) _ (early_named 1 (unfit_of store maps o) (omega arith))
      (early_or (ask_time (records_of maps o) o.opened n) _ (ask_early n) (request_early n e))
  early draining e = early_drain (rows_of store maps o) (unfit_of store maps o) coins
  early tearing e = tt

  pub never_eight : (call : Call K) → full_of maps o ≡ None → (c : Card) → refusal_of store maps o call coins ≡ Some c → c.number ≡ 8 → ⊥
  never_eight call e c r n = let h : c.number ≤ 7 = subst Early r (early call e) in omega arith
