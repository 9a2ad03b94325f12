-- Two numbers of k bits in one.
use Rattle.std.specs.Prelude.{ℕ, ◌+◌, ◌*◌, ◌/◌, ◌%◌, ◌^◌}

-- the low k bits of a number, and what stands above them
abbrev pub low_part : ℕ → ℕ → ℕ
low_part k n = n % 2 ^ k

abbrev pub high_part : ℕ → ℕ → ℕ
high_part k n = n / 2 ^ k

-- the number that has these two parts
abbrev pub packed : ℕ → ℕ → ℕ → ℕ
packed k low high = low + 2 ^ k * high
