-- Packing and splitting, for parts of any width: division and remainder undo the sum.
use Rattle.std.specs.Prelude.{◌≡◌, ℕ, ◌+◌, ◌^◌, ◌<◌}
use Rattle.std.proofs.Common.{ap, ◌∙◌, mod-lt, mod-eq_of_lt, zero-add}
use Rattle.std.proofs.Math.Nat.{mod-add-div, div-eq_of_lt, add-mul-mod_self_left, add-mul-div_left}
use Rattle.std.proofs.lemmas.Nat.{pow_pos, shr_below}
use Rattle.record.specs.Packing.{low_part, high_part, packed}

-- a number is packed from its parts
pub packed_parts : (k n : ℕ) → packed k (low_part k n) (high_part k n) ≡ n
packed_parts k n = mod-add-div n (2 ^ k)

-- a number of k bits is its own low part
pub low_same : (k n : ℕ) → n < 2 ^ k → low_part k n ≡ n
low_same k n h = mod-eq_of_lt h

-- a low part has k bits
pub low_fits : (k n : ℕ) → low_part k n < 2 ^ k
low_fits k n = mod-lt n (pow_pos k)

-- what was packed is split again
pub low_packed : (k low high : ℕ) → low < 2 ^ k → low_part k (packed k low high) ≡ low
low_packed k low high h = add-mul-mod_self_left low (2 ^ k) high ∙ mod-eq_of_lt h

pub high_packed : (k low high : ℕ) → low < 2 ^ k → high_part k (packed k low high) ≡ high
high_packed k low high h =
    add-mul-div_left low high (pow_pos k) ∙ ap (λ q. q + high) (div-eq_of_lt h) ∙ zero-add high

-- of a number of j + k bits, j stand above the low k
pub high_fits : (k j n : ℕ) → n < 2 ^ (j + k) → high_part k n < 2 ^ j
high_fits k j n h = shr_below n j k h
