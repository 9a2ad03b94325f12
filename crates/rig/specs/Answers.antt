-- Answers in the words of the card.
use Rattle.std.specs.Prelude.{ℕ, Some, None, Ok, Err, Option, Result}
use Rattle.card.specs.declared.fault.CardFault.{Ghosts as CardMeaning}

-- the number and the row of a refusal
abbrev pub refusal : {T F : Type 0} → CardMeaning F → Result T F → Option (ℕ × ℕ)
refusal card (Ok x) = None
refusal card (Err fault) = Some (card.number_of fault, card.row_of fault)
