use Rattle.std.proofs.Common.{ap, ◌∙◌, arith}
use Rattle.tree.specs.Blocks.{apart}
use Rattle.tree.specs.Queues.{queued}
use Rattle.tree.proofs.QueueLaws.{apart-lacking, left_at}
use Rattle.tree.proofs.queue.Queue.remove.Goals as goal

pub invariant_of-result : goal.invariant_of-result
invariant_of-result c =
    let r = left_at c.args.self c.args.i c.copy_within.new.self c.requires c.copy_within.ensures.after in
    let a = apart-lacking c.args.i (queued c.args.self) c.args.self.distinct in
    record { long = omega arith; few = omega arith; distinct = ap apart r ∙ a }

pub returns : goal.returns
returns c = left_at c.args.self c.args.i c.copy_within.new.self c.requires c.copy_within.ensures.after
