-- What a flat map holds, and all that its calls do.
use Rattle.std.specs.Prelude.{◌≡◌, ℕ, min, max, List, take, replicate, slice_set}
use Rattle.posmap.specs.declared.flat.FlatMap.{FlatMap}

-- how many leaves a flat map has at most
abbrev pub longest : ℕ
longest = 128

-- how many leaves a flat map has that is asked for a length: at least one, and no more than it can have
abbrev pub flat_length : ℕ → ℕ
flat_length n = max 1 (min n longest)

-- a flat map is always in order
abbrev pub flat_ordered : FlatMap → Type 0
flat_ordered s = Unit {0}

-- the leaf of each number
abbrev pub flat_leaves : FlatMap → List ℕ
flat_leaves s = take s.len s.table

-- the map t is s with another table, and nothing else
pub record Retabled (s t : FlatMap) (table : List ℕ) : Type 0 where
  pub table_is : t.table ≡ table
  pub len_stays : t.len ≡ s.len

-- a swap puts the new leaf in the number's place of the table
abbrev pub flat_swapped : FlatMap → ℕ → ℕ → List ℕ → FlatMap → Type 0
flat_swapped s i new coins t = Retabled s t (slice_set s.table i new)

-- a drain does nothing
abbrev pub flat_drained : FlatMap → List ℕ → FlatMap → Type 0
flat_drained s coins t = t ≡ s

-- a cleared map has a table of zeros
abbrev pub flat_cleared : FlatMap → FlatMap → Type 0
flat_cleared s t = Retabled s t (replicate longest 0)

-- there is no log to tear off
abbrev pub flat_torn : FlatMap → FlatMap → Type 0
flat_torn s t = t ≡ s
