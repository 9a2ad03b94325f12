-- The causes of refusals, by number.
use Rattle.std.specs.Prelude.{ℕ}
use Rattle.card.specs.declared.cause.Cause.{Cause}
use Rattle.card.specs.declared.cause.Cause.TheVariants as cause

-- the number of a cause on the card
abbrev pub number_of : Cause → ℕ
number_of cause.Unfit = 1
number_of cause.NoNumber = 2
number_of cause.NotOpened = 3
number_of cause.AllOpened = 4
number_of cause.WrongCoins = 5
number_of cause.NoLeaf = 6
number_of cause.LogFull = 7
number_of cause.QueueFull = 8
number_of cause.NoBucket = 9
number_of cause.NoEntry = 10
