-- Off the path nothing changes.
use Rattle.std.proofs.Common.{◌≡◌, ℕ, zero, suc, ◌^◌, ◌<◌, ◌≤◌, List, [], ◌∷◌, Some, None, Option, refl, ◌∙◌, arith}
use Rattle.tree.specs.declared.block.Block.{Block}
use Rattle.tree.specs.Paths.{path}
use Rattle.tree.specs.Places.{entry_place}
use Rattle.tree.proofs.PathLaws.{path_positive, path_root}
use Rattle.steps.specs.Steps.{Buckets, bucket, cleared_to, put_back_at, put_back_from, put_back, moved_by, flushed_to}
use Rattle.steps.specs.Laws.{OffPath, StepsLeaveTheRest}
use Rattle.steps.proofs.Buckets.{bucket_other}

-- a bucket that is none of the first k of the path
pub cleared_rest : (D n m : ℕ) (bs : Buckets) (v : ℕ) → 1 ≤ v → (k : ℕ) → ((d : ℕ) → d < k → path D m d ≡ v → ⊥)
    → bucket (cleared_to D n m bs k) v ≡ bucket bs v
cleared_rest D n m bs v h zero off = refl
cleared_rest D n m bs v h (suc k) off =
    bucket_other (cleared_to D n m bs k) (path D m k) v _ (path_positive D m k) h (off k (omega arith))
    ∙ cleared_rest D n m bs v h k (λ d l. off d (omega arith))

moved_rest : (bs : Buckets) (u v w : ℕ) (o : Option ℕ) → 1 ≤ u → 1 ≤ v → 1 ≤ w → (u ≡ w → ⊥) → (v ≡ w → ⊥)
    → bucket (moved_by bs u v o) w ≡ bucket bs w
moved_rest bs u v w None hu hv hw nu nv = refl
moved_rest bs u v w (Some i) hu hv hw nu nv = bucket_other _ v w _ hv hw nv ∙ bucket_other bs u w _ hu hw nu

flushed_rest : (D m : ℕ) (bs : Buckets) (v : ℕ) → OffPath D m v → (k : ℕ) → k ≤ D
    → bucket (flushed_to D m bs k) v ≡ bucket bs v
flushed_rest D m bs v off zero l = refl
flushed_rest D m bs v off (suc k) l =
    moved_rest (flushed_to D m bs k) (path D m k) (path D m (suc k)) v _ (path_positive D m k) (path_positive D m (suc k))
    off.0 (off.1 k (omega arith)) (off.1 (suc k) l)
    ∙ flushed_rest D m bs v off k (omega arith)

put_back_rest : (bs : Buckets) (q : List Block) (v : ℕ) → 2 ≤ v → bucket (put_back_from bs q).buckets v ≡ bucket bs v
put_back_rest bs [] v h = refl
put_back_rest bs (b ∷ rest) v h = at (entry_place b (bucket bs 1))
  where
    at : (o : Option ℕ) → bucket (put_back_at bs b rest o).buckets v ≡ bucket bs v
    at None = refl
    at (Some i) = bucket_other bs 1 v _ (omega arith) (omega arith) (λ e. omega arith)

pub steps_leave_the_rest : StepsLeaveTheRest
steps_leave_the_rest =
    record {
      fetch = λ D n m row v off. cleared_rest D n m row.buckets v off.0 (suc D) (λ d l. off.1 d (omega arith));
      of_put_back = λ row v h. put_back_rest row.buckets row.queue v h;
      flush = λ D m row v off. flushed_rest D m row.buckets v off D (omega arith);
      dequeue = λ D m row v h off.
          flushed_rest D m (put_back row).buckets v off D (omega arith)
          ∙ put_back_rest row.buckets row.queue v (below D m v h off);
    }
  where
    below : (D m v : ℕ) → m < 2 ^ D → OffPath D m v → 2 ≤ v
    below D m v h off = let n : 1 ≡ v → ⊥ = λ e. off.1 0 (omega arith) (path_root D m h ∙ e) in omega (arith, off.0)
