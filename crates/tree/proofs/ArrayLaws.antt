-- Arrays that a function of the index fills.
use Rattle.std.proofs.Common.{◌≡◌, ℕ, zero, suc, ◌+◌, ◌<◌, ◌≤◌, List, map, get_or, ◌∙◌, subst, inl, inr, arith}
use Rattle.std.proofs.lemmas.Bool.{cases_lt}
use Rattle.std.specs.Array.{IsFromFnResult, IsFromFnResultFrom}
use Rattle.std.specs.Fn.{Called}
use Rattle.std.specs.List.{range_with_len}
use Rattle.std.proofs.lemmas.List.FromFn.{fill_by_all}
use denote.Param.Members.{Mut}

module _ {F B : Type 0} (g : Mut F (ℕ × Unit {0}) B) (v : ℕ → B) (f : F)
    (gives : (i : ℕ) (y : B) (q : F) → Called g f (i, tt) y q → (y ≡ v i) × (q ≡ f)) where
  -- each call leaves the closure as it was, so each element is the function's value
  each_made : (ys : List B) (i n : ℕ) → IsFromFnResultFrom g f ys i n → (k : ℕ) (d : B) → i ≤ k → k < i + n → get_or ys k d ≡ v k
  each_made ys i zero made k d h l = absurd (omega arith)
  each_made ys i (suc n) made k d h l =
      let one = gives i made.1 made.0 made.3 in
      elim (cases_lt i k) [
        | inl a ↦ each_made ys (i + 1) n (subst (λ q. IsFromFnResultFrom g q ys (i + 1) n) one.1 made.4) k d (omega arith) (omega arith)
        | inr a ↦ let e : i ≡ k = omega arith in subst (λ j. get_or ys j d ≡ v j) e (made.2.1 d ∙ one.0)
      ]

  pub all_made : (ys : List B) (n : ℕ) (d : B) → IsFromFnResult g f ys n → ys ≡ map v (range_with_len 0 n)
  all_made ys n d made = fill_by_all v ys n d made.long (λ k l. each_made ys 0 n made.each k d (omega arith) (omega arith))
