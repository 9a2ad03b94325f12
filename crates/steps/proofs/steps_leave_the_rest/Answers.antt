use Rattle.steps.proofs.Rest.{steps_leave_the_rest}
use Rattle.steps.proofs.steps_leave_the_rest.Goals as goal

pub returns : goal.returns
returns c = steps_leave_the_rest
