-- How a map refuses a swap, and what an accepted one does, by the meaning of the whole map.
use Rattle.std.specs.Prelude.{ℕ, List, Option}
use Rattle.posmap.specs.declared.interface.PositionMap.{Ghosts as MapMeaning}
use Rattle.posmap.specs.Maps.{Card, SwapDone, swap_refusal}

-- how it refuses a swap of the leaf of number i for a new one under coins
abbrev pub swap_refused : {P F : Type 0} → MapMeaning P F → P → ℕ → ℕ → List ℕ → Option Card
swap_refused map p i new coins = swap_refusal (map.leaves p) (map.rows p) (map.unfit p) (map.full p) i new coins

-- what an accepted swap of a map in order answers and does
abbrev pub LeafSwapped : {P F : Type 0} → MapMeaning P F → P → P → ℕ → ℕ → List ℕ → ℕ → Type 0
LeafSwapped map before after i new coins answer =
    SwapDone (map.leaves before) (map.leaves after) (map.rows before) (map.rows after) i new coins answer
