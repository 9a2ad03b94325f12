-- The run law from what a call does.
use Rattle.std.proofs.Common.{◌≡◌, ℕ, suc, ◌^◌, ◌<◌, Bool, true, false, cond, eqb, ltb, List, [], ◌∷◌, map, length, get_or, set, Some, None, Option, sym, refl, ap, ◌∙◌, subst, inl, inr, arith}
use Rattle.std.specs.Option.{option_map}
use Rattle.std.proofs.lemmas.List.{get_or-set_other, get_or-set_same, length-replicate, length-set}
use Rattle.std.proofs.lemmas.Bool.{cases_eq, eqb-true, false≢true, ltb-true}
use Rattle.tree.specs.Blocks.{capacity}
use Rattle.tree.specs.Queues.{queued}
use Rattle.steps.specs.Order.{content}
use Rattle.steps.proofs.Order.{order_kept}
use Rattle.record.specs.declared.kind.RecordKind.{Ghosts as KindMeaning}
use Rattle.store.specs.declared.interface.BucketStore.{Ghosts as StoreMeaning}
use Rattle.posmap.specs.declared.interface.PositionMap.{Ghosts as MapMeaning}
use Rattle.posmap.specs.Maps.{Card, MapRow, OwnLeaves, fixed_of, naming, or_else, unless}
use Rattle.row.specs.Rows.{decoded_row}
use Rattle.front.proofs.Kept.{room_left, kept_holds, kept_others, none_full, none_unfit}
use Rattle.history.specs.Histories.{AllCan, Call, opening, getting, putting, draining, tearing, History, coins_of, deeds, CanAccept, Turn, drain, opened, plain_array, request, tear_off, written}
use Rattle.oram.specs.declared.oram.Oram.{Oram}
use Rattle.oram.specs.Calls.{Does, Done, Frame, Outcome, refused, did, Requested, ask_time, request_refusal, refusal_of}
use Rattle.oram.specs.Orams.{Ordered, depths_of, held, records_of, row_of, rows_of, unfit_of, full_of}
use Rattle.oram.specs.Worked.{Worked, turn_of}
use Rattle.oram.proofs.Arrivals.{arrives_named, arrives_words}
use Rattle.oram.proofs.Follow.{AllFollow, drain_follows, request_follows, tear_follows}
use Rattle.front.proofs.Fits.{or-none, unless-none}
use Rattle.oram.proofs.Passed.{SwapPassed, drain_passed, swap_passed}

-- the plain array keeps its length
written_long : {R : Type 0} (c : Call R) (xs : List (Option R)) → length (written c xs) ≡ length xs
written_long opening xs = refl
written_long (getting n) xs = refl
written_long (putting n x) xs = length-set xs n (Some x)
written_long draining xs = refl
written_long tearing xs = refl

pub array_long : {R : Type 0} (N : ℕ) (h : History R) → length (plain_array N h) ≡ N
array_long N [] = length-replicate N None
array_long N (t ∷ h) = go t.accepted (array_long N h)
  where
    go : (b : Bool) → length (plain_array N h) ≡ N → length (cond b (written t.call (plain_array N h)) (plain_array N h)) ≡ N
    go true e = written_long t.call (plain_array N h) ∙ e
    go false e = e

-- the depths are part of what never changes
pub depths_fixed : (rows : List MapRow) → map (λ row. row.depth) rows ≡ map (λ f. f.0) (fixed_of rows)
depths_fixed [] = refl
depths_fixed (row ∷ rows) = ap (λ ds. row.depth ∷ ds) (depths_fixed rows)

pub same_depths : (rows rows' : List MapRow) → fixed_of rows' ≡ fixed_of rows → map (λ row. row.depth) rows' ≡ map (λ row. row.depth) rows
same_depths rows rows' e = depths_fixed rows' ∙ (ap (map (λ f. f.0)) e ∙ sym (depths_fixed rows))

module _ {K S P F : Type 0} (kind : KindMeaning K) (store : StoreMeaning S) (maps : MapMeaning P F)
    (again : (x : K) → kind.made (kind.laid x) ≡ x) (coins : List ℕ) (o o' : Oram K S P) where
  -- a refused call
  refused_works : (call : Call K) (c : Card) (h : History K) → Worked kind store maps h o
      → Worked kind store maps (turn_of call coins (refused c) ∷ h) o
  refused_works call c h w =
      record {
        ordered = w.ordered;
        logs = w.logs;
        leaves = w.leaves;
        opened = w.opened;
        array = w.array;
        can = (λ e. absurd (false≢true e), w.can);
      }

  -- a request for record n
  module _ (frame : Frame kind store maps coins o o') (ordered' : Ordered store maps o') (n : ℕ)
      (words : Option (List ℕ) → Option (List ℕ)) (req : Requested kind store maps coins o o' n words)
      (p : SwapPassed (maps.leaves o.front.below) (rows_of store maps o) (unfit_of store maps o) (full_of maps o) n coins)
      (h : History K) (w : Worked kind store maps h o) where
    fits : get_or coins 0 0 < 2 ^ o.front.row.depth
    fits = p.right.1 0 0 (omega arith) (omega arith)

    room : length (queued o.front.row.queue) < capacity
    room = room_left o.front.row.queue (none_full (eqb (length (queued o.front.row.queue)) capacity) (maps.full o.front.below) p.room)

    holds : content n (row_of store o') ≡ words (content n (row_of store o))
    holds =
        kept_holds o.front.row.depth (maps.leaves o.front.below) (row_of store o) (row_of store o') n (get_or coins 0 0) req.arrives
        (get_or coins 1 0 ∷ get_or coins 2 0 ∷ []) w.ordered.1 p.number fits room
        (arrives_named n (get_or coins 0 0) (words (content n (row_of store o))) req.arrives req.arrives_as) req.row
        ∙ arrives_words n (get_or coins 0 0) (words (content n (row_of store o))) req.arrives req.arrives_as

    others : (m : ℕ) → (m ≡ n → ⊥) → content m (row_of store o') ≡ content m (row_of store o)
    others =
        kept_others o.front.row.depth (maps.leaves o.front.below) (row_of store o) (row_of store o') n (get_or coins 0 0) req.arrives
        (get_or coins 1 0 ∷ get_or coins 2 0 ∷ []) w.ordered.1 p.number fits room
        (arrives_named n (get_or coins 0 0) (words (content n (row_of store o))) req.arrives req.arrives_as) req.row

    own_leaves : OwnLeaves (records_of maps o) (maps.rows o.front.below)
    own_leaves = (maps.facts o.front.below).own_leaves (none_unfit _ (maps.unfit o.front.below) p.fit).0

    follow : AllFollow (rows_of store maps o') (request n ∷ deeds h) (coins ∷ coins_of h)
    follow =
        let P : List MapRow → Type 0 = λ rows. AllFollow rows (request n ∷ deeds h) (coins ∷ coins_of h) in
        subst P (sym req.rows)
        (request_follows _ (maps.rows o.front.below) n coins (deeds h) (coins_of h) own_leaves p.number
        (λ r l. record { log = w.logs r l; leaves = λ m k. w.leaves r m l k }))

    -- a record that is kept
    keeps : ((ws : Option (List ℕ)) → words ws ≡ ws) → (m : ℕ) → held kind store m o' ≡ held kind store m o
    keeps same m =
        ap (option_map kind.made)
        (elim (cases_eq m n) [
          | inl e ↦ ap (λ k. content k (row_of store o')) e ∙ (holds ∙ (same (content n (row_of store o)) ∙ ap (λ k. content k (row_of store o)) (sym e)))
          | inr e ↦ others m e
        ])

    -- a record that is put
    puts : (x : K) → ((ws : Option (List ℕ)) → words ws ≡ Some (kind.laid x)) → (m : ℕ) → m < records_of maps o
        → held kind store m o' ≡ get_or (set (plain_array (records_of maps o) h) n (Some x)) m None
    puts x put m l =
        elim (cases_eq m n) [
          | inl e ↦
              ap (λ k. held kind store k o') e
              ∙ (ap (option_map kind.made) (holds ∙ put (content n (row_of store o)))
              ∙ (ap Some (again x)
              ∙ (sym (get_or-set_same xs n (Some x) None (rw (array_long (records_of maps o) h) p.number))
              ∙ ap (λ k. get_or (set xs n (Some x)) k None) (sym e))))
          | inr e ↦ ap (option_map kind.made) (others m e) ∙ (w.array m l ∙ sym (get_or-set_other xs n m (Some x) None e))
        ]
      where
        xs : List (Option K)
        xs = plain_array (records_of maps o) h

  -- an accepted turn is one that can be accepted
  module _ (frame : Frame kind store maps coins o o') (h : History K) (w : Worked kind store maps h o) where
    abbrev N : ℕ
    N = records_of maps o

    abbrev Ds : List ℕ
    Ds = depths_of store maps o

    can_go_on : (t : Turn K) → CanAccept N Ds t h → AllCan (records_of maps o') (depths_of store maps o') (t ∷ h)
    can_go_on t c =
        let Q : ℕ → Type 0 = λ n. AllCan n (depths_of store maps o') (t ∷ h) in
        let R : List ℕ → Type 0 = λ ds. AllCan N ds (t ∷ h) in
        subst Q (sym frame.rows.length_stays)
        (subst R (sym (same_depths (rows_of store maps o) (rows_of store maps o') frame.rows.rows_stay)) (λ _. c, w.can))

    -- the plain array where nothing is put
    keeps_array : ((m : ℕ) → held kind store m o' ≡ held kind store m o) → (m : ℕ) → m < records_of maps o'
        → held kind store m o' ≡ get_or (plain_array (records_of maps o') h) m None
    keeps_array same m l =
        same m ∙ (w.array m (rw frame.rows.length_stays at l) ∙ ap (λ n. get_or (plain_array n h) m None) (sym frame.rows.length_stays))

    -- an open
    opening_works : (x : Option K) → Done kind store maps coins o o' opening (did x) → None ≡ refusal_of store maps o opening coins
        → Worked kind store maps (turn_of opening coins (did x) ∷ h) o'
    opening_works x d e =
        let t1 = or-none (naming 1 (unfit_of store maps o)) _ e in
        let t4 = or-none (unless (ltb o.opened N) _) _ t1.1 in
        let time : o.opened < N = ltb-true o.opened N (unless-none _ _ t4.0) in
        let p = swap_passed (maps.leaves o.front.below) (rows_of store maps o) (unfit_of store maps o) (full_of maps o) o.opened 0 coins t4.1 in
        let A : ℕ → Type 0 = λ k. AllFollow (rows_of store maps o') (request k ∷ deeds h) (coins ∷ coins_of h) in
        let f = subst A w.opened (follow frame d.ordered o.opened (λ ws. ws) d.work p h w) in
        record {
          ordered = d.ordered;
          logs = λ r l. (f r l).log;
          leaves = λ r m l k. (f r l).leaves m k;
          opened = d.opened ∙ ap suc w.opened;
          array = keeps_array (keeps frame d.ordered o.opened (λ ws. ws) d.work p h w (λ ws. refl));
          can = can_go_on (turn_of opening coins (did x)) (subst (λ k. k < N) w.opened time, p.right);
        }

    -- what a get or a put tells that was not refused
    pub in_time : (n : ℕ) → None ≡ or_else (naming 1 (unfit_of store maps o)) (or_else (ask_time N o.opened n) (request_refusal store maps o n coins))
        → ((opened h ≡ N) × (n < N)) × SwapPassed (maps.leaves o.front.below) (rows_of store maps o) (unfit_of store maps o) (full_of maps o) n coins
    in_time n e =
        let t1 = or-none (naming 1 (unfit_of store maps o)) _ e in
        let t = or-none (ask_time N o.opened n) _ t1.1 in
        let t2 = or-none (unless (ltb n N) _) (unless (eqb o.opened N) _) t.0 in
        let all : o.opened ≡ N = eqb-true _ _ (unless-none _ _ t2.1) in
        let p = swap_passed (maps.leaves o.front.below) (rows_of store maps o) (unfit_of store maps o) (full_of maps o) n 0 coins t.1 in
        ((sym w.opened ∙ all, p.number), p)

    -- a get
    getting_works : (n : ℕ) (x : Option K) → Done kind store maps coins o o' (getting n) (did x)
        → None ≡ refusal_of store maps o (getting n) coins → Worked kind store maps (turn_of (getting n) coins (did x) ∷ h) o'
    getting_works n x d e =
        let p = in_time n e in
        let f = follow frame d.ordered n (λ ws. ws) d.work p.1 h w in
        record {
          ordered = d.ordered;
          logs = λ r l. (f r l).log;
          leaves = λ r m l k. (f r l).leaves m k;
          opened = d.opened ∙ w.opened;
          array = keeps_array (keeps frame d.ordered n (λ ws. ws) d.work p.1 h w (λ ws. refl));
          can = can_go_on (turn_of (getting n) coins (did x)) (p.0, p.1.right);
        }

    -- a put
    putting_works : (n : ℕ) (y : K) (x : Option K) → Done kind store maps coins o o' (putting n y) (did x)
        → None ≡ refusal_of store maps o (putting n y) coins → Worked kind store maps (turn_of (putting n y) coins (did x) ∷ h) o'
    putting_works n y x d e =
        let p = in_time n e in
        let f = follow frame d.ordered n (λ ws. Some (kind.laid y)) d.work p.1 h w in
        record {
          ordered = d.ordered;
          logs = λ r l. (f r l).log;
          leaves = λ r m l k. (f r l).leaves m k;
          opened = d.opened ∙ w.opened;
          array = λ m l.
              puts frame d.ordered n (λ ws. Some (kind.laid y)) d.work p.1 h w y (λ ws. refl) m (rw frame.rows.length_stays at l)
              ∙ ap (λ k. get_or (set (plain_array k h) n (Some y)) m None) (sym frame.rows.length_stays);
          can = can_go_on (turn_of (putting n y) coins (did x)) (p.0, p.1.right);
        }

    -- a drain
    draining_works : (x : Option K) → Done kind store maps coins o o' draining (did x) → None ≡ refusal_of store maps o draining coins
        → Worked kind store maps (turn_of draining coins (did x) ∷ h) o'
    draining_works x d e =
        let p = drain_passed (rows_of store maps o) (unfit_of store maps o) coins e in
        let A : List MapRow → Type 0 = λ rows. AllFollow rows (drain ∷ deeds h) (coins ∷ coins_of h) in
        let f = subst A (sym d.work.rows)
        (drain_follows (rows_of store maps o) coins (deeds h) (coins_of h) (λ r l. record { log = w.logs r l; leaves = λ m k. w.leaves r m l k })) in
        record {
          ordered = d.ordered;
          logs = λ r l. (f r l).log;
          leaves = λ r m l k. (f r l).leaves m k;
          opened = d.opened ∙ w.opened;
          array = keeps_array
              (λ m. ap (option_map kind.made)
              (ap (content m) d.work.row ∙ order_kept.drain_holds o.front.row.depth (get_or coins 0 0) (maps.leaves o.front.below) (row_of store o) w.ordered.1 m));
          can = can_go_on (turn_of draining coins (did x)) (tt, p.right);
        }

    -- a tear-off
    tearing_works : (x : Option K) → Done kind store maps coins o o' tearing (did x) → Worked kind store maps (turn_of tearing coins (did x) ∷ h) o'
    tearing_works x d =
        let A : List MapRow → Type 0 = λ rows. AllFollow rows (tear_off ∷ deeds h) (coins ∷ coins_of h) in
        let f = subst A (sym d.work.rows)
        (tear_follows (rows_of store maps o) coins (deeds h) (coins_of h) (λ r l. record { log = w.logs r l; leaves = λ m k. w.leaves r m l k })) in
        record {
          ordered = d.ordered;
          logs = λ r l. (f r l).log;
          leaves = λ r m l k. (f r l).leaves m k;
          opened = d.opened ∙ w.opened;
          array = keeps_array
              (λ m. ap (λ row. option_map kind.made (content m row))
              (ap (λ bs. decoded_row bs o'.front.row.queue) d.work.buckets ∙ ap (decoded_row (store.buckets o.front.row.store)) d.work.queue));
          can = can_go_on (turn_of tearing coins (did x)) (tt, tt);
        }

  -- every call, accepted or refused
  pub does_works : (call : Call K) (outcome : Outcome K) → Does kind store maps coins o o' call outcome → (h : History K)
      → Worked kind store maps h o → Worked kind store maps (turn_of call coins outcome ∷ h) o'
  does_works call (refused c) d h w =
      subst (λ x. Worked kind store maps (turn_of call coins (refused c) ∷ h) x) (sym (d.same refl)) (refused_works call c h w)
  does_works opening (did x) d h w = opening_works d.frame h w x (d.accepted w.ordered refl) d.refusal
  does_works (getting n) (did x) d h w = getting_works d.frame h w n x (d.accepted w.ordered refl) d.refusal
  does_works (putting n y) (did x) d h w = putting_works d.frame h w n y x (d.accepted w.ordered refl) d.refusal
  does_works draining (did x) d h w = draining_works d.frame h w x (d.accepted w.ordered refl) d.refusal
  does_works tearing (did x) d h w = tearing_works d.frame h w x (d.accepted w.ordered refl)
