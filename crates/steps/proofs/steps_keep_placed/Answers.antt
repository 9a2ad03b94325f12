use Rattle.steps.proofs.Placed.{steps_keep_placed}
use Rattle.steps.proofs.steps_keep_placed.Goals as goal

pub returns : goal.returns
returns c = steps_keep_placed
