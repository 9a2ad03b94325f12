use Rattle.std.proofs.Common.{◌≡◌, take, vec_items}
use Rattle.runs.specs.Pairs.{logs_of}
use Rattle.secrecy.specs.Seen.{flat}
use Rattle.secrecy.proofs.seen.seen.Given as goal

abbrev pub invariant-loop-row : goal.invariant-loop-row
invariant-loop-row g l = vec_items l.out ≡ flat (take l.row (logs_of g.S.BucketStore g.P.PositionMap l.oram))
