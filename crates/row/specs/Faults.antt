-- The faults of a row, by number and row.
use Rattle.std.specs.Prelude.{ℕ}
use Rattle.row.specs.declared.fault.RowFault.{RowFault}
use Rattle.row.specs.declared.fault.RowFault.TheVariants.{Unfit, NoLeaf, LogFull, QueueFull}

-- the fault's number on the card of refusals
abbrev pub number_of : RowFault → ℕ
number_of Unfit = 1
number_of NoLeaf = 6
number_of LogFull = 7
number_of QueueFull = 8

-- a row by itself is row 0
abbrev pub row_of : RowFault → ℕ
row_of Unfit = 0
row_of NoLeaf = 0
row_of LogFull = 0
row_of QueueFull = 0
