-- A fault that is passed up keeps its place on the card.
use Rattle.std.proofs.Common.{◌≡◌, Err, Result, ap, ◌∙◌}
use Rattle.card.specs.declared.fault.CardFault.{Ghosts as CardMeaning}
use Rattle.posmap.specs.declared.fault.LevelFault.{LevelFault}
use Rattle.front.specs.Fronts.{front_card}
use Rattle.oram.specs.declared.fault.OramFault.{OramFault}
use Rattle.oram.specs.declared.fault.OramFault.TheVariants.{Front}
use Rattle.oram.specs.Requests.{oram_card}

pub same_place : {F T : Type 0} (card : CardMeaning F) (f : LevelFault F) (y : OramFault F) (r : Result T (OramFault F)) → r ≡ Err y
    → y ≡ Front f → oram_card card r ≡ front_card {T = T} card (Err f)
same_place card f y r e s = ap (oram_card card) (e ∙ ap (λ x. Err x) s)
