use Rattle.std.proofs.Common.{◌/◌, ◌<◌, ◌≤◌, arith}
use Rattle.std.proofs.lemmas.Result.{err_from_is_err_and}
use Rattle.tree.specs.Queues.{queued}
use Rattle.posmap.specs.Maps.{leaf_numbers, leaves_per_page}
use Rattle.front.proofs.Fits.{none_named, request_five, request_rest, request_six, request_two}
use Rattle.level.specs.Levels.{most_pages}
use Rattle.level.specs.Meaning.{leaves_of, pages_of, unfit_of}
use Rattle.level.proofs.Trials.{no_number, there}
use Rattle.level.proofs.level.Level.admits.Goals as goal

pub returns-then-page_number-len-clause-refused : goal.returns-then-page_number-len-clause-refused
returns-then-page_number-len-clause-refused g c =
    let s = c.args.self.now in
    let f = s.front in
    let st = g.S.BucketStore in
    let m = g.P.PositionMap in
    let i = c.args.number.0 in
    let fit = none_named 1 (unfit_of st m s) c.in_ok-fit.ensures in
    let past : pages_of m s ≤ i / leaves_per_page = omega (arith, c.if-page_number-len.true, c.len.ensures, c.page_number.ensures) in λ _.
    request_two st m most_pages f.row.store f.below f.row.depth (leaf_numbers c.args.coins.now) fit (queued f.row.queue) (leaves_of st m s) i
    c.args.leaf.0 (no_number st m s fit i past)

pub returns-in_err-shares-clause-refused : goal.returns-in_err-shares-clause-refused
returns-in_err-shares-clause-refused g c =
    let s = c.args.self.now in
    let f = s.front in
    let st = g.S.BucketStore in
    let m = g.P.PositionMap in
    let i = c.args.number.0 in
    let fit = none_named 1 (unfit_of st m s) c.in_ok-fit.ensures in
    let page : i / leaves_per_page < pages_of m s = omega (arith, c.if-page_number-len.false, c.len.ensures, c.page_number.ensures) in
    let p = err_from_is_err_and c.from_residual-in_err-shares.result c.from_residual-in_err-shares.ensures.1 in λ _.
    rw (p.1, p.2)
    (request_five st m most_pages f.row.store f.below f.row.depth (leaf_numbers c.args.coins.now) fit (queued f.row.queue) (leaves_of st m s) i
    c.args.leaf.0 (there st m s fit i page) _ c.in_err-shares.ensures)

pub returns-then-leaf-gt-WIDEST_LEAF-clause-refused : goal.returns-then-leaf-gt-WIDEST_LEAF-clause-refused
returns-then-leaf-gt-WIDEST_LEAF-clause-refused g c =
    let s = c.args.self.now in
    let f = s.front in
    let st = g.S.BucketStore in
    let m = g.P.PositionMap in
    let i = c.args.number.0 in
    let fit = none_named 1 (unfit_of st m s) c.in_ok-fit.ensures in
    let page : i / leaves_per_page < pages_of m s = omega (arith, c.if-page_number-len.false, c.len.ensures, c.page_number.ensures) in λ _.
    request_six st m most_pages f.row.store f.below f.row.depth (leaf_numbers c.args.coins.now) fit (queued f.row.queue) (leaves_of st m s) i
    c.args.leaf.0 (there st m s fit i page) c.in_ok-shares.ensures c.if-leaf-gt-WIDEST_LEAF.true

pub returns-clause-fit : goal.returns-clause-fit
returns-clause-fit g c = none_named 1 (unfit_of g.S.BucketStore g.P.PositionMap c.args.self.now) c.in_ok-fit.ensures

pub returns-clause-rest : goal.returns-clause-rest
returns-clause-rest g c =
    let s = c.args.self.now in
    let f = s.front in
    let st = g.S.BucketStore in
    let m = g.P.PositionMap in
    let i = c.args.number.0 in
    let fit = none_named 1 (unfit_of st m s) c.in_ok-fit.ensures in
    let page : i / leaves_per_page < pages_of m s = omega (arith, c.if-page_number-len.false, c.len.ensures, c.page_number.ensures) in
    request_rest st m most_pages f.row.store f.below f.row.depth (leaf_numbers c.args.coins.now) fit (queued f.row.queue) (leaves_of st m s) i
    c.args.leaf.0 (there st m s fit i page) (i / leaves_per_page) page c.if-leaf-gt-WIDEST_LEAF.false c.in_ok-shares.ensures
