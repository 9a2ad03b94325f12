use Rattle.std.proofs.Common.{◌<◌, ◌≤◌, length, vec_items, arith}
use Rattle.oram.specs.Orams.{rows_of}
use Rattle.posmap.specs.Maps.{row_at}
use Rattle.std.proofs.lemmas.Result.{IfOk-at_ok}
use Rattle.secrecy.proofs.Flats.{log_all, log_more}
use Rattle.secrecy.proofs.seen.add_log.Goals as goal

pub loop-k-preserved : goal.loop-k-preserved
loop-k-preserved g c =
    let log = (row_at (rows_of g.S.BucketStore g.P.PositionMap c.args.oram.now) c.args.row).log in
    let used = c.row_used-used.ensures.value in
    let l : c.loop-k.k < length log = omega arith in
    log_more log (vec_items c.push.new.self) (vec_items c.loop-k.out) (vec_items c.push-in-loop-k.new.self) c.loop-k.k
    c.unwrap-entry.result.0 c.loop-k.invariant l (IfOk-at_ok _ c.unwrap-entry.ensures c.row_entry.ensures.value)
    c.in_ok-push-2.ensures.items

pub returns : goal.returns
returns g c =
    let log = (row_at (rows_of g.S.BucketStore g.P.PositionMap c.args.oram.now) c.args.row).log in
    let used = c.row_used-used.ensures.value in
    let t = c.loop-k-test.false in
    let l : length log ≤ c.loop-k.k = omega arith in
    log_all log (vec_items c.push.new.self) (vec_items c.args.out.now) (vec_items c.loop-k.out) c.loop-k.k
    c.row_used-used.result c.loop-k.invariant l c.in_ok-push.ensures.items used
