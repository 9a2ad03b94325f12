use Rattle.std.proofs.Common.{◌≡◌, ◌++◌, take, vec_items}
use Rattle.oram.specs.Orams.{rows_of}
use Rattle.posmap.specs.Maps.{row_at}
use Rattle.secrecy.proofs.seen.add_log.Given as goal

abbrev pub invariant-loop-k : goal.invariant-loop-k
invariant-loop-k g l =
    vec_items l.out
    ≡ vec_items l.initial.out ++ take l.k (row_at (rows_of g.S.BucketStore g.P.PositionMap l.oram) l.row).log
