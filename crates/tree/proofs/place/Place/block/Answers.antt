use Rattle.std.proofs.Common.{not, refl, ap, arith}
use Rattle.std.proofs.lemmas.Bool.{ne_eqb}
use Rattle.tree.proofs.PlaceLaws.{same_block, some-given}
use Rattle.tree.proofs.place.Place.block.Goals as goal

pub returns : goal.returns
returns c =
    let one = c.in_ok-number.ensures in
    some-given _ _ _ (ap not (ne_eqb c.args.self.now.mark 0 (λ z. omega (arith, one.0)))) (same_block _ _ one.1 refl refl)
