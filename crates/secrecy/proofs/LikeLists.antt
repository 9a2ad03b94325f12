-- What an iterator gives, seen through one function more.
use Rattle.std.proofs.Common.{List, [], ◌∷◌, map, Option, ap}
use Rattle.std.specs.Iterator.{AlwaysYields}
use Rattle.std.proofs.lemmas.Iterator.{YieldsList}

seen_through : {S A B C : Type 0} (steps : S → Option A → S → Type 0) (v : A → B) (h : B → C) (s : S) (ys : List B) → AlwaysYields steps v s ys
    → AlwaysYields steps (λ x. h (v x)) s (map h ys)
seen_through steps v h s [] e = e
seen_through steps v h s (y ∷ ys) e = (e.0, λ x t g. let n = e.1 x t g in (ap h n.0, seen_through steps v h t ys n.1))

pub YieldsList-through : {S A B C : Type 0} {steps : S → Option A → S → Type 0} {v : A → B} (h : B → C) {s : S} {ys : List B} → YieldsList steps v s ys
    → YieldsList steps (λ x. h (v x)) s (map h ys)
YieldsList-through {S} {A} {B} {C} {steps} {v} h {s} {ys} e = record { runs = seen_through steps v h s ys e.runs }
