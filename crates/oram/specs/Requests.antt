-- What the part that all requests share answers and does.
use Rattle.std.specs.Prelude.{◌≡◌, ℕ, true, List, is_err, IfOk, Option, Result}
use Rattle.std.specs.Option.{option_or}
use Rattle.steps.specs.Order.{content}
use Rattle.record.specs.declared.kind.RecordKind.{Ghosts as KindMeaning}
use Rattle.store.specs.declared.interface.BucketStore.{Ghosts as StoreMeaning}
use Rattle.card.specs.declared.fault.CardFault.{Ghosts as CardMeaning}
use Rattle.posmap.specs.declared.interface.PositionMap.{Ghosts as MapMeaning}
use Rattle.posmap.specs.Maps.{Card, card_of}
use Rattle.oram.specs.declared.fault.OramFault.{OramFault}
use Rattle.oram.specs.declared.oram.Oram.{Oram}
use Rattle.oram.specs.Calls.{Frame, Requested, request_refusal}
use Rattle.oram.specs.Faults.{oram_number, oram_row}
use Rattle.oram.specs.Orams.{Ordered, row_of}

-- the card's place of an answer: none where the call is accepted
abbrev pub oram_card : {F T : Type 0} → CardMeaning F → Result T (OramFault F) → Option Card
oram_card card r = card_of (record { number_of = oram_number card.number_of; row_of = oram_row card.row_of }) r

-- a request for record n in time, where these words are put, if any
pub record Asks {K S P F : Type 0} (kind : KindMeaning K) (store : StoreMeaning S) (map : MapMeaning P F) (card : CardMeaning F)
    (coins : List ℕ) (o o' : Oram K S P) (n : ℕ) (put : Option (List ℕ)) (r : Result (Option (List ℕ)) (OramFault F)) : Type 0 where
  pub refusal : oram_card card r ≡ request_refusal store map o n coins
  pub same : is_err r ≡ true → o' ≡ o
  pub frame : Frame kind store map coins o o'
  pub opened : o'.opened ≡ o.opened
  pub done : Ordered store map o
      → IfOk r (λ words. (words ≡ content n (row_of store o)) × Requested kind store map coins o o' n (option_or put) × Ordered store map o')
