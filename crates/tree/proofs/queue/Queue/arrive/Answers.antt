use Rattle.std.proofs.Common.{sym, ap, ◌∙◌, arith, length-set}
use Rattle.tree.specs.Blocks.{apart}
use Rattle.tree.specs.Queues.{queued}
use Rattle.tree.proofs.QueueLaws.{apart_push, count_room, come_last}
use Rattle.tree.proofs.queue.Queue.arrive.Goals as goal

pub invariant_of-result : goal.invariant_of-result
invariant_of-result c =
    let room = count_room c.args.self c.if-is_full.ensures in
    let r = come_last c.args.self c.args.block room in
    let a = apart_push (queued c.args.self) c.args.block c.args.self.distinct (sym c.if-has.ensures) in
    record { long = length-set _ _ _ ∙ c.args.self.long; few = omega arith; distinct = ap apart r ∙ a }
