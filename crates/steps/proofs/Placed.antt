-- After every step each block has its bucket on its own path, if that was so before.
use Rattle.std.proofs.Common.{◌≡◌, ℕ, zero, suc, ◌-◌, ◌^◌, ◌<◌, ◌≤◌, Bool, true, false, cond, List, [], ◌∷◌, ◌++◌, get_or, set, IfSome, Some, None, Option, refl, inl, inr, arith}
use Rattle.std.specs.List.{AllByRecursion}
use Rattle.std.proofs.ByRecursion.{All-set, All-push}
use Rattle.std.proofs.lemmas.Bool.{and_parts, ltb-true, eqb-true, cases_eq, false≢true, cond_both}
use Rattle.tree.specs.declared.block.Block.{Block}
use Rattle.tree.specs.declared.place.Place.{Place}
use Rattle.tree.specs.Blocks.{accepts, arrived}
use Rattle.tree.specs.Choice.{chosen, may_move}
use Rattle.tree.specs.Paths.{path}
use Rattle.tree.specs.Places.{has_block, block_in, blocks_in, empty_place, emptied, filled, place_for, entry_place}
use Rattle.tree.proofs.PathLaws.{path_positive, path_root}
use Rattle.steps.specs.Steps.{Buckets, Row, bucket, with_bucket, cleared_to, fetched, arriving, put_back_at, put_back_from, put_back, moved_by, moved, flushed_to, flushed, dequeued, dequeued_all}
use Rattle.steps.specs.Laws.{OnPath, Placed, StepsKeepPlaced}
use Rattle.steps.proofs.Buckets.{set_at, bucket_other}
use Rattle.steps.proofs.Lookups.{others-all}
use Rattle.tree.proofs.Firsts.{chosen_moves}

-- what holds of the block of a place, if it has one
abbrev Of : (Block → Type 0) → Place → Type 0
Of P p = has_block p ≡ true → P (block_in p)

of_places : (P : Block → Type 0) (ps : List Place) → AllByRecursion P (blocks_in ps) → AllByRecursion (Of P) ps
of_places P [] a = a
of_places P (p ∷ ps) a = go (has_block p) a (of_places P ps)
  where
    go : (h : Bool) → AllByRecursion P (cond h (block_in p ∷ blocks_in ps) (blocks_in ps)) → (AllByRecursion P (blocks_in ps) → AllByRecursion (Of P) ps)
        → (h ≡ true → P (block_in p)) × AllByRecursion (Of P) ps
    go true k rest = (λ _. k.0, rest k.1)
    go false k rest = (λ e. absurd (false≢true e), rest k)

from_places : (P : Block → Type 0) (ps : List Place) → AllByRecursion (Of P) ps → AllByRecursion P (blocks_in ps)
from_places P [] a = a
from_places P (p ∷ ps) a =
    let rest = from_places P ps a.1 in
    cond_both (has_block p) (block_in p ∷ blocks_in ps) (blocks_in ps) (AllByRecursion P) (λ e. (a.0 e, rest)) (λ _. rest)

blocks_set : (P : Block → Type 0) (ps : List Place) (i : ℕ) (p : Place) → Of P p → AllByRecursion P (blocks_in ps) → AllByRecursion P (blocks_in (set ps i p))
blocks_set P ps i p h a = from_places P (set ps i p) (All-set (Of P) ps i p h (of_places P ps a))

blocks_emptied : (P : Block → Type 0) (ps : List Place) (o : Option ℕ) → AllByRecursion P (blocks_in ps) → AllByRecursion P (blocks_in (emptied ps o))
blocks_emptied P ps None a = a
blocks_emptied P ps (Some i) a = blocks_set P ps i empty_place (λ e. absurd (false≢true e)) a

blocks_filled : (P : Block → Type 0) (ps : List Place) (p : Place) (o : Option ℕ) → Of P p → AllByRecursion P (blocks_in ps) → AllByRecursion P (blocks_in (filled ps p o))
blocks_filled P ps p None h a = a
blocks_filled P ps p (Some i) h a = blocks_set P ps i p h a

-- the block may stand in bucket v
abbrev Fits : ℕ → ℕ → Block → Type 0
Fits D v b = OnPath D b.leaf.0 v

-- every block stands on its own path
abbrev Held : ℕ → Buckets → Type 0
Held D bs = (v : ℕ) → 1 ≤ v → AllByRecursion (Fits D v) (blocks_in (bucket bs v))

held-set : (D : ℕ) (bs : Buckets) (u : ℕ) (ps : List Place) → 1 ≤ u → AllByRecursion (Fits D u) (blocks_in ps) → Held D bs → Held D (with_bucket bs u ps)
held-set D bs u ps h a held v k =
    elim (cases_eq u v) [
      | inl e ↦ rw (← e) (set_at [] (λ qs. AllByRecursion (Fits D u) (blocks_in qs)) bs (u - 1) ps tt a)
      | inr n ↦ rw (bucket_other bs u v ps h k n) (held v k)
    ]

-- a bucket loses a block, or none
held-emptied : (D : ℕ) (bs : Buckets) (u : ℕ) (o : Option ℕ) → 1 ≤ u → Held D bs → Held D (with_bucket bs u (emptied (bucket bs u) o))
held-emptied D bs u o h held = held-set D bs u _ h (blocks_emptied (Fits D u) (bucket bs u) o (held u h)) held

cleared_held : (D n m : ℕ) (bs : Buckets) (k : ℕ) → Held D bs → Held D (cleared_to D n m bs k)
cleared_held D n m bs zero held = held
cleared_held D n m bs (suc k) held =
    held-emptied D (cleared_to D n m bs k) (path D m k) _ (path_positive D m k) (cleared_held D n m bs k held)

-- a block that may move to layer d fits there
may_fit : (D m d : ℕ) (p : Place) → d ≤ D → may_move D m d p ≡ true → Fits D (path D m d) (block_in p)
may_fit D m d p l h =
    let r = and_parts _ _ (and_parts (has_block p) _ h).1 in
    (ltb-true _ _ r.0, (d, l, eqb-true _ _ r.1))

moved-held : (D m : ℕ) (bs : Buckets) (k : ℕ) → k < D → Held D bs → Held D (moved D m bs k)
moved-held D m bs k l held = go (chosen D m (suc k) (bucket bs u) (bucket bs v)) refl
  where
    u : ℕ
    u = path D m k

    v : ℕ
    v = path D m (suc k)

    go : (o : Option ℕ) → chosen D m (suc k) (bucket bs u) (bucket bs v) ≡ o → Held D (moved_by bs u v o)
    go None e = held
    go (Some i) e =
        let c = chosen_moves D m (suc k) (bucket bs u) (bucket bs v) i e in
        let p : Place = get_or (bucket bs u) i empty_place in
        held-set D _ v _ (path_positive D m (suc k))
        (blocks_filled (Fits D v) (bucket bs v) p _ (λ _. may_fit D m (suc k) p l c.1) (held v (path_positive D m (suc k))))
        (held-emptied D bs u (Some i) (path_positive D m k) held)

flushed-held : (D m : ℕ) (bs : Buckets) (k : ℕ) → k ≤ D → Held D bs → Held D (flushed_to D m bs k)
flushed-held D m bs zero l held = held
flushed-held D m bs (suc k) l held = moved-held D m (flushed_to D m bs k) k l (flushed-held D m bs k (omega arith) held)

arrived-all : (P : Block → Type 0) (b : Block) (bs : List Block) → P b → AllByRecursion P bs → AllByRecursion P (arrived b bs)
arrived-all P b bs h a = cond_both (accepts b bs) (bs ++ b ∷ []) bs (AllByRecursion P) (λ _. All-push P bs b a h) (λ _. a)

fetch : (D n m : ℕ) (row : Row) → Placed D row → Placed D (fetched D n m row)
fetch D n m row h =
    record {
      tree = cleared_held D n m row.buckets (suc D) h.tree;
      waiting = others-all (λ b. b.leaf.0 < 2 ^ D) n row.queue h.waiting;
    }

arrive : (D : ℕ) (b : Option Block) (row : Row) → IfSome b (λ x. x.leaf.0 < 2 ^ D) → Placed D row
    → Placed D (arriving b row)
arrive D None row l h = h
arrive D (Some b) row l h =
    record { tree = h.tree; waiting = arrived-all (λ x. x.leaf.0 < 2 ^ D) b row.queue l h.waiting }

put_back_from_lem : (D : ℕ) (bs : Buckets) (q : List Block) → Held D bs → AllByRecursion (λ b. b.leaf.0 < 2 ^ D) q → Placed D (put_back_from bs q)
put_back_from_lem D bs [] held w = record { tree = held; waiting = w }
put_back_from_lem D bs (b ∷ rest) held w = at (entry_place b (bucket bs 1))
  where
    at : (o : Option ℕ) → Placed D (put_back_at bs b rest o)
    at None = record { tree = held; waiting = w }
    at (Some i) =
        record {
          tree =
              held-set D bs 1 _ (omega arith)
              (blocks_set (Fits D 1) (bucket bs 1) i (place_for b) (λ _. (w.0, (0, omega arith, path_root D b.leaf.0 w.0)))
              (held 1 (omega arith)))
              held;
          waiting = w.1;
        }

of_put_back : (D : ℕ) (row : Row) → Placed D row → Placed D (put_back row)
of_put_back D row h = put_back_from_lem D row.buckets row.queue h.tree h.waiting

flush : (D m : ℕ) (row : Row) → Placed D row → Placed D (flushed D m row)
flush D m row h = record { tree = flushed-held D m row.buckets D (omega arith) h.tree; waiting = h.waiting }

dequeues : (D : ℕ) (ms : List ℕ) (row : Row) → Placed D row → Placed D (dequeued_all D ms row)
dequeues D [] row h = h
dequeues D (m ∷ ms) row h = dequeues D ms (dequeued D m row) (flush D m (put_back row) (of_put_back D row h))

pub steps_keep_placed : StepsKeepPlaced
steps_keep_placed =
    record {
      fetch = fetch;
      arrive = arrive;
      of_put_back = of_put_back;
      flush = flush;
      dequeue = λ D m row h. flush D m (put_back row) (of_put_back D row h);
      of_second_half = λ D b ms row l h. dequeues D ms (arriving b row) (arrive D b row l h);
    }
