use Rattle.std.proofs.Common.{◌<◌, ◌≤◌, length, vec_items, arith}
use Rattle.oram.specs.Orams.{rows_of}
use Rattle.secrecy.proofs.Flats.{flat-all, flat_more}
use Rattle.secrecy.proofs.seen.seen.Goals as goal

pub loop-row-preserved : goal.loop-row-preserved
loop-row-preserved g c =
    let rows = rows_of g.S.BucketStore g.P.PositionMap c.args.oram.now in
    let n = c.row_count-row-end.ensures in
    let t = c.loop-row-test.true in
    let l : c.loop-row.row < length rows = omega arith in
    flat_more rows c.loop-row.row (vec_items c.loop-row.out) (vec_items c.add_log.new.out) c.loop-row.invariant l
    c.in_ok-add_log.ensures

pub returns : goal.returns
returns g c =
    let rows = rows_of g.S.BucketStore g.P.PositionMap c.args.oram.now in
    let n = c.row_count-row-end.ensures in
    let t = c.loop-row-test.false in
    let few = c.requires in
    let l : length rows ≤ c.loop-row.row = omega arith in
    flat-all rows c.loop-row.row (vec_items c.loop-row.out) c.loop-row.invariant l
