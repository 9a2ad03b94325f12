use Rattle.runs.proofs.Eight.{differ_by_eight}
use Rattle.runs.proofs.runs_differ_by_eight_only.Goals as goal

pub returns : goal.returns
returns g c = differ_by_eight g.K.RecordKind g.S.BucketStore g.P.PositionMap g.met.K.RecordKind.again
