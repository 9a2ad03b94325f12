use Rattle.runs.proofs.Equal.{one_to_one}
use Rattle.runs.proofs.relabelling_is_one_to_one.Goals as goal

pub returns : goal.returns
returns g c = one_to_one g.K.RecordKind g.S.BucketStore g.P.PositionMap g.met.K.RecordKind.again
