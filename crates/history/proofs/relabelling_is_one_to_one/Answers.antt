use Rattle.history.proofs.Keeps.{relabelling_is_one_to_one}
use Rattle.history.proofs.relabelling_is_one_to_one.Goals as goal

pub returns : goal.returns
returns g c = relabelling_is_one_to_one _
