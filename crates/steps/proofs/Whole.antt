-- What holds of every place of a row holds after each step, if it holds of the empty place and of a place for any block.
use Rattle.std.proofs.Common.{ℕ, zero, suc, ◌-◌, List, [], ◌∷◌, Some, None, Option}
use Rattle.std.specs.List.{AllByRecursion}
use Rattle.std.proofs.ByRecursion.{All-set}
use Rattle.tree.specs.declared.block.Block.{Block}
use Rattle.tree.specs.declared.place.Place.{Place}
use Rattle.tree.specs.Paths.{path}
use Rattle.tree.specs.Places.{empty_place, emptied, filled, place_for, place_of, entry_place}
use Rattle.steps.specs.Steps.{Buckets, Row, bucket, with_bucket, cleared_to, put_back_at, put_back_from, put_back, moved_by, flushed_to, dequeued, dequeued_all}
use Rattle.steps.proofs.Buckets.{all_at}

module _ (P : Place → Type 0) (none : P empty_place) (some : (b : Block) → P (place_for b)) where
  -- of every place of every bucket
  abbrev Every : Buckets → Type 0
  Every bs = AllByRecursion (AllByRecursion P) bs

  every_at : (bs : Buckets) (v : ℕ) → Every bs → AllByRecursion P (bucket bs v)
  every_at bs v a = all_at [] (AllByRecursion P) bs (v - 1) tt a

  every_with : (bs : Buckets) (v : ℕ) (ps : List Place) → AllByRecursion P ps → Every bs → Every (with_bucket bs v ps)
  every_with bs v ps h a = All-set (AllByRecursion P) bs (v - 1) ps h a

  emptied_every : (ps : List Place) (o : Option ℕ) → AllByRecursion P ps → AllByRecursion P (emptied ps o)
  emptied_every ps None a = a
  emptied_every ps (Some i) a = All-set P ps i empty_place none a

  filled_every : (ps : List Place) (p : Place) (o : Option ℕ) → P p → AllByRecursion P ps → AllByRecursion P (filled ps p o)
  filled_every ps p None h a = a
  filled_every ps p (Some i) h a = All-set P ps i p h a

  pub cleared_every : (D n m : ℕ) (bs : Buckets) (k : ℕ) → Every bs → Every (cleared_to D n m bs k)
  cleared_every D n m bs zero a = a
  cleared_every D n m bs (suc k) a =
      let before = cleared_every D n m bs k a in
      let ps : List Place = bucket (cleared_to D n m bs k) (path D m k) in
      every_with (cleared_to D n m bs k) _ _ (emptied_every ps (place_of n ps) (every_at (cleared_to D n m bs k) _ before)) before

  put_back_every : (bs : Buckets) (q : List Block) → Every bs → Every (put_back_from bs q).buckets
  put_back_every bs [] a = a
  put_back_every bs (b ∷ rest) a = at (entry_place b (bucket bs 1))
    where
      at : (o : Option ℕ) → Every (put_back_at bs b rest o).buckets
      at None = a
      at (Some i) = every_with bs 1 _ (All-set P (bucket bs 1) i (place_for b) (some b) (every_at bs 1 a)) a

  moved_every : (bs : Buckets) (u v : ℕ) (o : Option ℕ) → Every bs → Every (moved_by bs u v o)
  moved_every bs u v None a = a
  moved_every bs u v (Some i) a =
      every_with _ v _ (filled_every (bucket bs v) _ _ (all_at empty_place P (bucket bs u) i none (every_at bs u a)) (every_at bs v a))
      (every_with bs u _ (All-set P (bucket bs u) i empty_place none (every_at bs u a)) a)

  flushed_every : (D m : ℕ) (bs : Buckets) (k : ℕ) → Every bs → Every (flushed_to D m bs k)
  flushed_every D m bs zero a = a
  flushed_every D m bs (suc k) a = moved_every (flushed_to D m bs k) _ _ _ (flushed_every D m bs k a)

  pub dequeues_every : (D : ℕ) (ms : List ℕ) (row : Row) → Every row.buckets → Every (dequeued_all D ms row).buckets
  dequeues_every D [] row a = a
  dequeues_every D (m ∷ ms) row a =
      dequeues_every D ms (dequeued D m row) (flushed_every D m (put_back row).buckets D (put_back_every row.buckets row.queue a))
