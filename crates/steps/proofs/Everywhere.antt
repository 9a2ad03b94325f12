-- What holds of all elements of a list: of its parts, of any rearrangement.
use Rattle.std.proofs.Common.{ℕ, zero, suc, List, [], ◌∷◌, ◌++◌, replicate, subst}
use mathlib.Core.List.{Permᴰ}
use Rattle.std.specs.List.{flat_map, AllByRecursion}
use Rattle.std.proofs.ByRecursion.{All-append}

module _ {X : Type 0} (P : X → Type 0) where
  pub all_rearranged : {xs ys : List X} → Permᴰ xs ys → AllByRecursion P xs → AllByRecursion P ys
  all_rearranged Permᴰ.nil a = a
  all_rearranged (Permᴰ.cons e d) a = (subst P e a.0, all_rearranged d a.1)
  all_rearranged (Permᴰ.swap e f) a = (subst P f a.1.0, (subst P e a.0, a.1.1))
  all_rearranged (Permᴰ.trans d e) a = all_rearranged e (all_rearranged d a)

  pub all_parts : (xs ys : List X) → AllByRecursion P (xs ++ ys) → AllByRecursion P xs × AllByRecursion P ys
  all_parts [] ys a = (tt, a)
  all_parts (x ∷ xs) ys a = let r = all_parts xs ys a.1 in ((a.0, r.0), r.1)

  pub all_each : {Y : Type 0} (f : Y → List X) (ys : List Y) → AllByRecursion P (flat_map f ys) → AllByRecursion (λ y. AllByRecursion P (f y)) ys
  all_each f [] a = a
  all_each f (y ∷ ys) a = let r = all_parts (f y) (flat_map f ys) a in (r.0, all_each f ys r.1)

  pub all_joined : {Y : Type 0} (f : Y → List X) (ys : List Y) → AllByRecursion (λ y. AllByRecursion P (f y)) ys → AllByRecursion P (flat_map f ys)
  all_joined f [] a = a
  all_joined f (y ∷ ys) a = All-append P (f y) (flat_map f ys) a.0 (all_joined f ys a.1)

  pub all_replicate : (n : ℕ) (x : X) → P x → AllByRecursion P (replicate n x)
  all_replicate zero x h = tt
  all_replicate (suc n) x h = (h, all_replicate n x h)

-- from two facts of each element, a third
pub all_with : {X : Type 0} (P Q R : X → Type 0) → ((x : X) → P x → Q x → R x) → (xs : List X) → AllByRecursion P xs → AllByRecursion Q xs → AllByRecursion R xs
all_with P Q R f [] a b = tt
all_with P Q R f (x ∷ xs) a b = (f x a.0 b.0, all_with P Q R f xs a.1 b.1)
