use Rattle.runs.proofs.Eight.{small_never_differs}
use Rattle.runs.proofs.small_runs_never_differ.Goals as goal

pub returns : goal.returns
returns g c = small_never_differs g.K.RecordKind g.S.BucketStore g.P.PositionMap g.met.K.RecordKind.again
