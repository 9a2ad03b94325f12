use Rattle.std.proofs.Common.{refl}
use Rattle.std.proofs.lemmas.Bool.{lt-ltb}
use Rattle.tree.proofs.PlaceLaws.{same_place, some-given}
use Rattle.tree.proofs.place.Place.holding.Goals as goal

pub returns : goal.returns
returns c =
    let fits = c.in_ok-mark.ensures in
    some-given _ _ _ (lt-ltb _ _ fits.0) (same_place _ _ fits.1 refl refl)
