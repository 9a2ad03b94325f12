-- The sorts of calls, as histories know them.
use Rattle.history.specs.Histories as history
use Rattle.secrecy.specs.declared.calls.Sort.{Sort}
use Rattle.secrecy.specs.declared.calls.Sort.TheVariants.{Open, Ask, Drain, TearOff}

-- the sort that a value means
abbrev pub sort_in : Sort → history.Sort
sort_in Open = history.opens
sort_in Ask = history.asks
sort_in Drain = history.drains
sort_in TearOff = history.tears
