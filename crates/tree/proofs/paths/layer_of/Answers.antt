use Rattle.tree.proofs.PathLaws.{layer_at}
use Rattle.tree.proofs.paths.layer_of.Goals as goal

pub returns : goal.returns
returns c =
    let log = c.checked_ilog2.ensures in
    layer_at _ _ log.none log.power_le log.next_power_gt
