use Rattle.runs.proofs.Equal.{equal}
use Rattle.runs.proofs.logs_are_equal.Goals as goal

pub returns : goal.returns
returns g c = equal g.K.RecordKind g.S.BucketStore g.P.PositionMap g.met.K.RecordKind.again
