-- The faults of a store, by number and row.
use Rattle.std.specs.Prelude.{ℕ}
use Rattle.store.specs.declared.fault.StoreFault.{StoreFault}
use Rattle.store.specs.declared.fault.StoreFault.TheVariants.{Full, NoBucket, NoEntry}

-- the fault's number on the card of refusals
abbrev pub number_of : StoreFault → ℕ
number_of Full = 7
number_of NoBucket = 9
number_of NoEntry = 10

-- a store by itself is row 0
abbrev pub row_of : StoreFault → ℕ
row_of Full = 0
row_of NoBucket = 0
row_of NoEntry = 0
