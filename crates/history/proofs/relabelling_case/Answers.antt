use Rattle.history.proofs.Example.{relabelling_case}
use Rattle.history.proofs.relabelling_case.Goals as goal

pub returns : goal.returns
returns c = relabelling_case
