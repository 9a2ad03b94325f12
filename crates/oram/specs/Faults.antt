-- The number and the row of each fault on the card of refusals.
use Rattle.std.specs.Prelude.{ℕ}
use Rattle.posmap.specs.Faults.{level_number, level_row}
use Rattle.oram.specs.declared.fault.OramFault.{OramFault}
use Rattle.oram.specs.declared.fault.OramFault.TheVariants as oram

-- the number of an Oram's fault: of one of its row 0 or of the map below, its number there
abbrev pub oram_number : {F : Type 0} → (F → ℕ) → OramFault F → ℕ
oram_number number oram.NotOpened = 3
oram_number number oram.AllOpened = 4
oram_number number (oram.Front fault) = level_number number fault

-- the row of an Oram's fault: of one of its row 0 or of the map below, its row as of a row in front of that map
abbrev pub oram_row : {F : Type 0} → (F → ℕ) → OramFault F → ℕ
oram_row row oram.NotOpened = 0
oram_row row oram.AllOpened = 0
oram_row row (oram.Front fault) = level_row row fault
