-- The coins of a row, as numbers.
use Rattle.std.proofs.Common.{◌≡◌, ℕ, zero, suc, ◌-◌, ◌≤◌, List, [], ◌∷◌, length, get_or, take, drop, refl, ap, ◌∙◌, arith}
use Rattle.std.proofs.lemmas.List.{take_rest}
use Rattle.tree.specs.declared.numbers.Leaf.{Leaf}
use Rattle.posmap.specs.Maps.{coins_below, leaf_numbers}

-- the number of coin k
abbrev pub at : List Leaf → ℕ → ℕ
at xs k = (get_or xs k (record { 0 = 0 })).0

pub numbers_at : (xs : List Leaf) (k : ℕ) → at xs k ≡ get_or (leaf_numbers xs) k 0
numbers_at [] k = refl
numbers_at (x ∷ xs) zero = refl
numbers_at (x ∷ xs) (suc k) = numbers_at xs k

-- as many numbers as coins
pub length_numbers : (xs : List Leaf) → length (leaf_numbers xs) ≡ length xs
length_numbers [] = refl
length_numbers (x ∷ xs) = ap suc (length_numbers xs)

numbers_drop : (k : ℕ) (xs : List Leaf) → leaf_numbers (drop k xs) ≡ drop k (leaf_numbers xs)
numbers_drop zero xs = refl
numbers_drop (suc k) [] = refl
numbers_drop (suc k) (x ∷ xs) = numbers_drop k xs

-- the coins that are left, as the code takes them
pub left : (k : ℕ) (xs : List Leaf) → leaf_numbers (take (length xs - k) (drop k xs)) ≡ drop k (leaf_numbers xs)
left k xs = ap leaf_numbers (take_rest xs k) ∙ numbers_drop k xs

-- a row's own coins are the first of all
pub three_below : (D : ℕ) (xs : List Leaf) → 3 ≤ length xs
    → coins_below D 3 (at xs 0 ∷ at xs 1 ∷ at xs 2 ∷ []) ≡ coins_below D 3 (leaf_numbers xs)
three_below D [] l = absurd (let n : ⊥ = omega arith in n)
three_below D (x ∷ []) l = absurd (let n : ⊥ = omega arith in n)
three_below D (x ∷ y ∷ []) l = absurd (let n : ⊥ = omega arith in n)
three_below D (x ∷ y ∷ z ∷ xs) l = refl
