use Rattle.history.proofs.Logs.{logs_are_equal}
use Rattle.history.proofs.logs_are_equal.Goals as goal

pub returns : goal.returns
returns g c = logs_are_equal _
