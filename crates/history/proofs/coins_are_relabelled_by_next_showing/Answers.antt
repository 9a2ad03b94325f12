use Rattle.history.proofs.Showings.{relabelled_by_next_showing}
use Rattle.history.proofs.coins_are_relabelled_by_next_showing.Goals as goal

pub returns : goal.returns
returns g c = relabelled_by_next_showing _
