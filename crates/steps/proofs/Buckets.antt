-- A bucket after other places were put there, or elsewhere.
use Rattle.std.proofs.Common.{◌≡◌, ℕ, zero, suc, ◌-◌, ◌<◌, ◌≤◌, List, [], ◌∷◌, length, get_or, set, sym, refl, arith}
use Rattle.std.specs.List.{AllByRecursion}
use Rattle.std.proofs.lemmas.List.{get_or-set_other}
use Rattle.tree.specs.declared.place.Place.{Place}
use Rattle.steps.specs.Steps.{Buckets, bucket, with_bucket}

module _ {X : Type 0} (d : X) where
  -- what holds of all, and of the default
  pub all_at : (P : X → Type 0) (xs : List X) (i : ℕ) → P d → AllByRecursion P xs → P (get_or xs i d)
  all_at P [] i h a = h
  all_at P (x ∷ xs) zero h a = a.0
  all_at P (x ∷ xs) (suc i) h a = all_at P xs i h a.1

  -- what is put at i, or the default where there is no such place
  pub set_at : (P : X → Type 0) (xs : List X) (i : ℕ) (y : X) → P d → P y → P (get_or (set xs i y) i d)
  set_at P [] i y h k = h
  set_at P (x ∷ xs) zero y h k = k
  set_at P (x ∷ xs) (suc i) y h k = set_at P xs i y h k

  pub changed_at : (f : X → X) → f d ≡ d → (xs : List X) (i : ℕ) → get_or (set xs i (f (get_or xs i d))) i d ≡ f (get_or xs i d)
  changed_at f e [] i = sym e
  changed_at f e (x ∷ xs) zero = refl
  changed_at f e (x ∷ xs) (suc i) = changed_at f e xs i

-- a list of lists has the list that has a place
pub within_range : {X : Type 0} (xss : List (List X)) (k i : ℕ) → i < length (get_or xss k []) → k < length xss
within_range [] k i h = omega arith
within_range (xs ∷ xss) zero i h = omega arith
within_range (xs ∷ xss) (suc k) i h = omega (arith, within_range xss k i h)

pub bucket_other : (bs : Buckets) (u v : ℕ) (ps : List Place) → 1 ≤ u → 1 ≤ v → (u ≡ v → ⊥)
    → bucket (with_bucket bs u ps) v ≡ bucket bs v
bucket_other bs u v ps h k n = get_or-set_other bs (u - 1) (v - 1) ps [] (λ e. n (omega arith))
