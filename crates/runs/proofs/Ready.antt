-- A call against which nothing stands but, perhaps, a full queue.
use Rattle.std.proofs.Common.{◌≡◌, ℕ, zero, suc, ◌+◌, ◌<◌, ◌≤◌, eqb, ltb, leb, List, [], ◌∷◌, length, IfSome, Some, None, Option, refl, ap, ◌∙◌, arith}
use Rattle.std.proofs.lemmas.Bool.{eq-eqb, eqb-true, leb-true, lt-ltb}
use Rattle.tree.specs.Entries.{drain_moves, request_moves}
use Rattle.store.specs.declared.interface.BucketStore.{Ghosts as StoreMeaning}
use Rattle.posmap.specs.declared.interface.PositionMap.{Ghosts as MapMeaning}
use Rattle.posmap.specs.Maps.{Card, MapRow, log_refusal, naming, or_else, row_at, unless}
use Rattle.front.proofs.Fits.{or-none, unless-none}
use Rattle.history.specs.Histories.{Call, opening, getting, putting, draining, tearing, InTime, RightCoins, Sort, asks, tears, named, sort}
use Rattle.oram.specs.declared.oram.Oram.{Oram}
use Rattle.oram.specs.Calls.{ask_time, open_time, refusal_of}
use Rattle.oram.specs.Orams.{depths_of, full_of, records_of, rows_of, unfit_of}
use Rattle.oram.specs.Worked.{moves_by}
use Rattle.oram.proofs.Accepts.{drain_passes, swap_full}
use Rattle.oram.proofs.Passed.{drain_passed, swap_passed}

-- every log has the entries free
logs_free : (moves : ℕ → ℕ) (q : ℕ) (rows : List MapRow) → None ≡ log_refusal moves q rows → (r : ℕ) → r < length rows
    → length (row_at rows r).log + moves (row_at rows r).depth ≤ (row_at rows r).span
logs_free moves q [] e r l = absurd (let n : ⊥ = omega arith in n)
logs_free moves q (row ∷ rows) e r l =
    let t = or-none (unless (leb (length row.log + moves row.depth) row.span) _) (log_refusal moves (suc q) rows) e in
    go r l (leb-true _ _ (unless-none _ _ t.0)) (logs_free moves (suc q) rows t.1)
  where
    go : (k : ℕ) → k < length (row ∷ rows) → length row.log + moves row.depth ≤ row.span
        → ((i : ℕ) → i < length rows → length (row_at rows i).log + moves (row_at rows i).depth ≤ (row_at rows i).span)
        → length (row_at (row ∷ rows) k).log + moves (row_at (row ∷ rows) k).depth ≤ (row_at (row ∷ rows) k).span
    go zero k here more = here
    go (suc i) k here more = more i (omega arith)

module _ {K S P F : Type 0} (store : StoreMeaning S) (maps : MapMeaning P F) where
  pub record Ready (s : Sort) (n : ℕ) (coins : List ℕ) (o : Oram K S P) : Type 0 where
    pub fit : unfit_of store maps o ≡ None
    pub in_time : InTime (records_of maps o) s n o.opened
    pub right : RightCoins s (depths_of store maps o) coins
    pub free : (r : ℕ) → r < length (rows_of store maps o)
        → length (row_at (rows_of store maps o) r).log + moves_by s (row_at (rows_of store maps o) r).depth ≤ (row_at (rows_of store maps o) r).span

  module _ (o : Oram K S P) (coins : List ℕ) where
    -- an accepted request
    ask_ready : (n : ℕ) → None ≡ refusal_of store maps o (getting n) coins → Ready asks n coins o
    ask_ready n e =
        let t1 = or-none (naming 1 (unfit_of store maps o)) _ e in
        let t = or-none (ask_time (records_of maps o) o.opened n) _ t1.1 in
        let t2 = or-none (unless (ltb n (records_of maps o)) _) (unless (eqb o.opened (records_of maps o)) _) t.0 in
        let p = swap_passed (maps.leaves o.front.below) (rows_of store maps o) (unfit_of store maps o) (full_of maps o) n 0 coins t.1 in
        record {
          fit = p.fit;
          in_time = (eqb-true _ _ (unless-none _ _ t2.1), p.number);
          right = p.right;
          free = logs_free request_moves 0 (rows_of store maps o) p.free;
        }

    pub accepted_ready : (call : Call K) → (sort call ≡ tears → ⊥) → None ≡ refusal_of store maps o call coins → Ready (sort call) (named call) coins o
    accepted_ready opening f e =
        let t1 = or-none (naming 1 (unfit_of store maps o)) _ e in
        let t4 = or-none (open_time (records_of maps o) o.opened) _ t1.1 in
        let p = swap_passed (maps.leaves o.front.below) (rows_of store maps o) (unfit_of store maps o) (full_of maps o) o.opened 0 coins t4.1 in
        record { fit = p.fit; in_time = p.number; right = p.right; free = logs_free request_moves 0 (rows_of store maps o) p.free }
    accepted_ready (getting n) f e = ask_ready n e
    accepted_ready (putting n x) f e = ask_ready n e
    accepted_ready draining f e =
        let p = drain_passed (rows_of store maps o) (unfit_of store maps o) coins e in
        record { fit = p.fit; in_time = tt; right = p.right; free = logs_free drain_moves 0 (rows_of store maps o) p.free }
    accepted_ready tearing f e = absurd (f refl)

    -- no refusal of two
    none_or : {a b c : Option Card} → a ≡ None → b ≡ c → or_else a b ≡ c
    none_or {b = b} e f = ap (λ x. or_else x b) e ∙ f

    -- a call that is ready is refused by a full queue or not at all
    ask_full : (n : ℕ) → Ready asks n coins o → refusal_of store maps o (getting n) coins ≡ naming 8 (full_of maps o)
    ask_full n a =
        none_or (ap (naming 1) a.fit)
        (none_or (rw (lt-ltb n (records_of maps o) a.in_time.1, eq-eqb o.opened (records_of maps o) a.in_time.0) refl)
        (swap_full (maps.leaves o.front.below) (rows_of store maps o) (unfit_of store maps o) (full_of maps o) n coins a.fit a.in_time.1 a.right a.free))

    abbrev Eight : Option Card → Type 0
    Eight r = IfSome r (λ c. c.number ≡ 8)

    eight_named : (full : Option ℕ) → Eight (naming 8 full)
    eight_named None = tt
    eight_named (Some r) = refl

    pub ready_eight : (call : Call K) → Ready (sort call) (named call) coins o → Eight (refusal_of store maps o call coins)
    ready_eight opening a =
        let e : refusal_of store maps o opening coins ≡ naming 8 (full_of maps o) =
        none_or (ap (naming 1) a.fit)
        (none_or (rw (lt-ltb o.opened (records_of maps o) a.in_time) refl)
        (swap_full (maps.leaves o.front.below) (rows_of store maps o) (unfit_of store maps o) (full_of maps o) o.opened coins a.fit a.in_time a.right a.free)) in
        rw e (eight_named (full_of maps o))
    ready_eight (getting n) a = rw (ask_full n a) (eight_named (full_of maps o))
    ready_eight (putting n x) a = rw (ask_full n a) (eight_named (full_of maps o))
    ready_eight draining a =
        let e = drain_passes (rows_of store maps o) (unfit_of store maps o) coins a.fit a.right a.free in
        rw e tt
    ready_eight tearing a = tt
