use Rattle.runs.proofs.Equal.{moves_only}
use Rattle.runs.proofs.leaves_only_move.Goals as goal

pub returns : goal.returns
returns g c = moves_only g.K.RecordKind g.S.BucketStore g.P.PositionMap g.met.K.RecordKind.again
