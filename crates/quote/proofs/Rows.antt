-- Rows one by one, and how much they cost at most.
use Rattle.std.proofs.Common.{◌≡◌, ℕ, zero, suc, ◌+◌, ◌*◌, ◌<◌, ◌≤◌, true, List, [], ◌∷◌, ◌++◌, length, get_or, take, sym, ap, ◌∙◌, add-one, arith, rules}
use Rattle.std.specs.Prelude.{IsSome, MatchOption, None, Option, Some}
use Rattle.std.proofs.lemmas.List.{append_assoc, append-nil}
use Rattle.std.proofs.lemmas.Bool.{and_parts}
use Rattle.tree.specs.Entries.{all_depths, moves_of, total}
use Rattle.tree.specs.Paths.{is_depth}
use Rattle.tree.specs.declared.entries.Work.{Work}
use Rattle.tree.specs.declared.entries.Work.TheVariants.{Request, Drain}
use Rattle.quote.specs.Quotes.{lines_from}

-- each of the depths is one
pub depth_at : (Ds : List ℕ) (k d : ℕ) → all_depths Ds ≡ true → k < length Ds → is_depth (get_or Ds k d) ≡ true
depth_at [] k d h l = absurd (omega arith)
depth_at (D ∷ Ds) zero d h l = (and_parts (is_depth D) (all_depths Ds) h).0
depth_at (D ∷ Ds) (suc k) d h l = depth_at Ds k d (and_parts (is_depth D) (all_depths Ds) h).1 (omega arith)

-- one line more
lines_on : (line : ℕ → ℕ → List ℕ) (r k d : ℕ) (Ds : List ℕ) → k < length Ds
    → lines_from line r (take k Ds) ++ line (r + k) (get_or Ds k d) ≡ lines_from line r (take (suc k) Ds)
lines_on line r k d [] l = absurd (omega arith)
lines_on line r zero d (D ∷ Ds) l = let e : r + 0 ≡ r = omega arith in ap (λ n. line n D) e ∙ sym (append-nil (line r D))
lines_on line r (suc k) d (D ∷ Ds) l =
    let e : r + suc k ≡ suc r + k = omega arith in
    append_assoc (line r D) (lines_from line (suc r) (take k Ds)) (line (r + suc k) (get_or Ds k d))
    ∙ ap (λ xs. line r D ++ xs) (ap (λ n. lines_from line (suc r) (take k Ds) ++ line n (get_or Ds k d)) e ∙ lines_on line (suc r) k d Ds (omega arith))

pub lines_more : (line : ℕ → ℕ → List ℕ) (k d : ℕ) (Ds : List ℕ) → k < length Ds
    → lines_from line 0 (take k Ds) ++ line k (get_or Ds k d) ≡ lines_from line 0 (take (k + 1) Ds)
lines_more line k d Ds l =
    let e : k ≡ 0 + k = omega arith in
    ap (λ n. lines_from line 0 (take k Ds) ++ line n (get_or Ds k d)) e
    ∙ (lines_on line 0 k d Ds l ∙ ap (λ n. lines_from line 0 (take n Ds)) (sym (add-one k)))

-- a row moves at most 82 buckets
few_moves : (work : Work) (D : ℕ) → is_depth D ≡ true → moves_of work D ≤ 82
few_moves Request D h = let l : D ≤ 12 = search rules in omega arith
few_moves Drain D h = let l : D ≤ 12 = search rules in omega arith

pub total_small : (work : Work) (Ds : List ℕ) → all_depths Ds ≡ true → total (moves_of work) Ds ≤ 82 * length Ds
total_small work [] h = omega arith
total_small work (D ∷ Ds) h =
    let p = and_parts (is_depth D) (all_depths Ds) h in
    let a = few_moves work D p.0 in
    let b = total_small work Ds p.1 in
    omega arith

-- a total of depths that fits is given
pub given : (r : Option ℕ) {A F : Type 0} (Q : ℕ → Type 0) → MatchOption r (A → F → ⊥) Q → A → F → IsSome r
given None Q h a f = absurd (h a f)
given (Some n) Q h a f = search rules
