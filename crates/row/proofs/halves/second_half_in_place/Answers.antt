use Rattle.std.proofs.Common.{◌≡◌, ◌+◌, ◌*◌, true, length, is_ok, sym, ap, ◌∙◌, arith}
use Rattle.std.specs.Result.{result_err}
use Rattle.tree.specs.Queues.{queued}
use Rattle.row.proofs.HalfLaws.{dequeue_long}
use Rattle.row.proofs.TrialLaws.{none_ok, second_passed, step_passes}
use Rattle.row.proofs.halves.second_half_in_place.Goals as goal

pub unwrap-requires-2 : goal.unwrap-requires-2
unwrap-requires-2 g c =
    let D = c.args.depth in
    let s0 = c.args.store.now in
    let s1 = c.dequeue_in_place.new.store in
    let p = second_passed g.S.BucketStore s0 D (length (queued c.args.queue.now)) c.args.arrives c.args.first c.args.second
    (sym (ap result_err c.in_ok-second_trial.was) ∙ c.second_trial.ensures) in
    let ok : is_ok c.dequeue_in_place.result ≡ true = ap is_ok c.unwrap.ensures in
    let long = dequeue_long D c.args.first.0 _ _ (rw ok at c.dequeue_in_place.ensures.log) in
    let same = c.dequeue_in_place.ensures.span in
    let free = p.free in
    none_ok c.dequeue_in_place-2.result
    (c.dequeue_in_place-2.ensures.answer
    ∙ step_passes g.S.BucketStore s1 D c.args.second (2 * D + 4) (rw c.dequeue_in_place.ensures.count p.fit) p.along_second (omega arith))
