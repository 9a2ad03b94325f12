use Rattle.history.proofs.Moves.{leaves_only_move}
use Rattle.history.proofs.leaves_only_move.Goals as goal

pub returns : goal.returns
returns g c = leaves_only_move _
