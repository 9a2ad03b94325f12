use Rattle.steps.proofs.Order.{order_kept}
use Rattle.steps.proofs.order_is_kept.Goals as goal

pub returns : goal.returns
returns c = order_kept
