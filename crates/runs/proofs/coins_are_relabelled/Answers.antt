use Rattle.runs.proofs.Equal.{meant}
use Rattle.runs.proofs.coins_are_relabelled.Goals as goal

pub returns : goal.returns
returns g c = meant g.K.RecordKind g.S.BucketStore g.P.PositionMap g.met.K.RecordKind.again
