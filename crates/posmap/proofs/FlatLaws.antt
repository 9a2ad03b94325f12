-- What a map without rows refuses, and how many leaves a flat map has.
use Rattle.std.proofs.Common.{◌≡◌, ℕ, suc, ◌<◌, ◌≤◌, ◌⊎◌, List, [], ◌∷◌, length, Some, None, refl, ap, ◌∙◌, inl, inr, arith}
use Rattle.std.proofs.lemmas.List.{length-take-le}
use Rattle.std.proofs.lemmas.Bool.{cases_lt, le-ltb, lt-ltb, eq-eqb, ne_eqb, le-leb, lt-leb}
use Rattle.tree.specs.declared.numbers.Leaf.{Leaf}
use Rattle.posmap.specs.declared.flat.FlatMap.{FlatMap}
use Rattle.posmap.specs.Flat.{flat_leaves}
use Rattle.posmap.specs.Maps.{swap_refusal, drain_refusal, leaf_numbers}

-- coins as leaves and as numbers are as many
pub leaf_count : (ms : List Leaf) → length (leaf_numbers ms) ≡ length ms
leaf_count [] = refl
leaf_count (m ∷ ms) = ap suc (leaf_count ms)

-- a swap of no number, with coins, of a wide leaf, and one that is accepted
pub refuses_number : (leaves coins : List ℕ) (i new : ℕ) → length leaves ≤ i
    → swap_refusal leaves [] None None i new coins ≡ Some (record { number = 2; row = 0 })
refuses_number leaves coins i new h = let a = le-ltb i (length leaves) h in rw a

pub refuses_coins : (leaves coins : List ℕ) (i new : ℕ) → i < length leaves → (length coins ≡ 0 → ⊥)
    → swap_refusal leaves [] None None i new coins ≡ Some (record { number = 5; row = 0 })
refuses_coins leaves coins i new h k =
    let a = lt-ltb i (length leaves) h in let b = ne_eqb (length coins) 0 k in rw (a, b)

pub refuses_leaf : (leaves coins : List ℕ) (i new : ℕ) → i < length leaves → length coins ≡ 0 → 4095 < new
    → swap_refusal leaves [] None None i new coins ≡ Some (record { number = 6; row = 0 })
refuses_leaf leaves coins i new h k l =
    let a = lt-ltb i (length leaves) h in let b = eq-eqb (length coins) 0 k in let d = lt-leb new 4095 l in rw (a, b, d)

pub accepts_swap : (leaves coins : List ℕ) (i new : ℕ) → i < length leaves → length coins ≡ 0 → new ≤ 4095
    → swap_refusal leaves [] None None i new coins ≡ None
accepts_swap leaves coins i new h k l =
    let a = lt-ltb i (length leaves) h in let b = eq-eqb (length coins) 0 k in let d = le-leb new 4095 l in rw (a, b, d)

-- a swap that is not refused is of a number that there is
pub swaps_within : (leaves coins : List ℕ) (i new : ℕ) → None ≡ swap_refusal leaves [] None None i new coins → i < length leaves
swaps_within leaves coins i new h = go (cases_lt i (length leaves))
  where
    go : (i < length leaves) ⊎ (length leaves ≤ i) → i < length leaves
    go (inl l) = l
    go (inr g) = let e = h ∙ refuses_number leaves coins i new g in let z : ◌≡◌ {A = ℕ} 0 1 = cc in absurd (omega arith)

-- a drain with coins, and one with none
pub drain_coins : (coins : List ℕ) → (length coins ≡ 0 → ⊥) → drain_refusal [] None coins ≡ Some (record { number = 5; row = 0 })
drain_coins coins k = let b = ne_eqb (length coins) 0 k in rw b

pub accepts_drain : (coins : List ℕ) → length coins ≡ 0 → drain_refusal [] None coins ≡ None
accepts_drain coins k = let b = eq-eqb (length coins) 0 k in rw b

-- the table is longer than the map, so the first of its leaves are all there
pub leaves_long : (s : FlatMap) → length (flat_leaves s) ≡ s.len
leaves_long s = length-take-le s.len s.table (omega (arith, s.long, s.few))
