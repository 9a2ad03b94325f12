use Rattle.std.proofs.Common.{◌≡◌, ◌+◌, ◌<◌, ◌≤◌, true, not, length, is_ok, sym, ap, ◌∙◌, arith}
use Rattle.std.specs.Result.{result_err}
use Rattle.std.proofs.lemmas.Result.{IfOk-at_ok}
use Rattle.tree.specs.Blocks.{capacity}
use Rattle.tree.specs.Paths.{is_leaf}
use Rattle.tree.specs.Queues.{queued}
use Rattle.row.specs.Trials.{arrival_fits, is_fit, second_moves}
use Rattle.row.proofs.HalfLaws.{arrives_fit, fetch_long, fewer, room_left}
use Rattle.row.proofs.TrialLaws.{none_ok, request_passed, second_passes}
use Rattle.row.proofs.row.Row.request.Goals as goal

pub unwrap-requires : goal.unwrap-requires
unwrap-requires g c =
    let r = c.args.self.now in
    let ask = c.args.ask in
    let got = c.fetch.new.self in
    let p = request_passed g.S.BucketStore r ask.new ask.first ask.second (not c.is_full.result)
    (sym (ap result_err c.in_ok-trial.was) ∙ rw c.request_moves-entries.ensures at c.trial.ensures) in
    let frame = c.fetch.ensures.frame in
    let ok : is_ok c.fetch.result ≡ true = ap is_ok c.unwrap-found.ensures in
    let long = fetch_long r.depth c.in_range-along.result.0 _ _ (rw ok at c.fetch.ensures.log) in
    let few = ap (λ row. length row.queue) (IfOk-at_ok _ c.unwrap-found.ensures c.fetch.ensures.row) in
    let short = fewer ask.number.0 (queued r.queue) in
    let room = room_left r.queue c.is_full.result c.is_full.ensures p.roomy in
    let free = p.free in
    let new : is_leaf got.depth ask.new.0 ≡ true = rw frame.depth p.of_new in
    let first : is_leaf got.depth ask.first.0 ≡ true = rw frame.depth p.along_first in
    let second : is_leaf got.depth ask.second.0 ≡ true = rw frame.depth p.along_second in
    let fit : is_fit got.depth (length (g.S.BucketStore.buckets got.store)) ≡ true = rw (frame.depth, frame.count) p.fit in
    let fits : arrival_fits got.depth c.arrival-arrives.result ≡ true =
    arrives_fit got.depth ask.number.0 ask.new.0 c.change.result c.arrival-arrives.result new c.arrival-arrives.ensures in
    let enough : length (g.S.BucketStore.log got.store) + second_moves got.depth ≤ g.S.BucketStore.span got.store = omega arith in
    let roomy : length (queued got.queue) < capacity = omega arith in
    none_ok c.second_half.result
    (c.second_half.ensures.answer
    ∙ second_passes g.S.BucketStore got.store got.depth (length (queued got.queue)) c.arrival-arrives.result ask.first ask.second fit fits
    first second enough roomy)
