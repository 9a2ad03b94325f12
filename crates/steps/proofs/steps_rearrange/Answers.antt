use Rattle.steps.proofs.Rearrange.{steps_rearrange}
use Rattle.steps.proofs.steps_rearrange.Goals as goal

pub returns : goal.returns
returns c = steps_rearrange
