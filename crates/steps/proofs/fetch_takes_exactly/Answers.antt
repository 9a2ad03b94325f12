use Rattle.steps.proofs.Fetch.{fetch_takes_exactly}
use Rattle.steps.proofs.fetch_takes_exactly.Goals as goal

pub returns : goal.returns
returns c = fetch_takes_exactly
