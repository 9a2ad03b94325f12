-- The number and the row of each fault on the card of refusals.
use Rattle.std.specs.Prelude.{ℕ, ◌+◌, min}
use Rattle.card.specs.declared.fault.CardFault.{Ghosts as CardMeaning}
use Rattle.posmap.specs.declared.fault.FlatFault.{FlatFault}
use Rattle.posmap.specs.declared.fault.FlatFault.TheVariants as flat
use Rattle.posmap.specs.declared.fault.LevelFault.{LevelFault}
use Rattle.posmap.specs.declared.fault.LevelFault.TheVariants as level

-- the last row that a fault can name: a row is one byte
abbrev pub last_row : ℕ
last_row = 255

-- the number of a flat map's fault
abbrev pub flat_number : FlatFault → ℕ
flat_number flat.NoNumber = 2
flat_number flat.WrongCoins = 5
flat_number flat.WideLeaf = 6
flat_number (flat.NoEntry row) = 10

-- the row of a flat map's fault: the row asked for an entry, else 0
abbrev pub flat_row : FlatFault → ℕ
flat_row flat.NoNumber = 0
flat_row flat.WrongCoins = 0
flat_row flat.WideLeaf = 0
flat_row (flat.NoEntry row) = row

-- the number of a level's fault: of one from below, its number there
abbrev pub level_number : {F : Type 0} → (F → ℕ) → LevelFault F → ℕ
level_number number level.Unfit = 1
level_number number level.NoNumber = 2
level_number number level.WrongCoins = 5
level_number number level.NoLeaf = 6
level_number number level.LogFull = 7
level_number number level.QueueFull = 8
level_number number (level.NoEntry row) = 10
level_number number (level.Below fault) = number fault

-- the row of a level's fault: of one from below, its row there raised by one, as far as a row can be named
abbrev pub level_row : {F : Type 0} → (F → ℕ) → LevelFault F → ℕ
level_row row level.Unfit = 0
level_row row level.NoNumber = 0
level_row row level.WrongCoins = 0
level_row row level.NoLeaf = 0
level_row row level.LogFull = 0
level_row row level.QueueFull = 0
level_row row (level.NoEntry asked) = asked
level_row row (level.Below fault) = min last_row (row fault + 1)

-- what the faults of a flat map mean on the card, and those of a level over what the lower ones mean
abbrev pub flat_card : CardMeaning FlatFault
flat_card = record { number_of = flat_number; row_of = flat_row }

abbrev pub level_card : {F : Type 0} → CardMeaning F → CardMeaning (LevelFault F)
level_card card = record { number_of = level_number card.number_of; row_of = level_row card.row_of }
