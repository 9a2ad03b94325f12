use Rattle.std.proofs.Common.{◌+◌, refl, rules}
use Rattle.std.specs.List.{slice_index}
use Rattle.tree.proofs.ArrayLaws.{all_made}
use Rattle.tree.proofs.PlaceLaws.{same_place}
use Rattle.tree.proofs.place.Place.read.Goals as goal

pub returns : goal.returns
returns c =
    same_place _ _ refl refl
    (all_made _ (λ k. slice_index c.args.from.now (c.args.at + (2 + k))) _ (λ i y q called. search rules) c.from_fn.result 8 0 c.from_fn.ensures.items)
