use Rattle.steps.proofs.Shape.{steps_keep_shape}
use Rattle.steps.proofs.steps_keep_shape.Goals as goal

pub returns : goal.returns
returns c = steps_keep_shape
