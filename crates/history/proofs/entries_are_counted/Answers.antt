use Rattle.history.proofs.Logs.{counted}
use Rattle.history.proofs.entries_are_counted.Goals as goal

pub returns : goal.returns
returns g c = counted _
