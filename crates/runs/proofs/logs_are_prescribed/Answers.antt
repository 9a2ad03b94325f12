use Rattle.runs.proofs.Along.{logs_are_prescribed}
use Rattle.runs.proofs.logs_are_prescribed.Goals as goal

pub returns : goal.returns
returns g c = logs_are_prescribed g.K.RecordKind g.S.BucketStore g.P.PositionMap g.met.K.RecordKind.again
