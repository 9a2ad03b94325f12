use Rattle.std.proofs.Common.{refl}
use Rattle.steps.proofs.bench_cases.Goals as goal

pub returns : goal.returns
returns c = record { count = refl; table = (refl, (refl, (refl, (refl, (refl, (refl, (refl, tt))))))) }
