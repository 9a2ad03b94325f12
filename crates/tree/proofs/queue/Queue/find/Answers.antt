use Rattle.tree.specs.Queues.{queued}
use Rattle.tree.proofs.QueueLaws.{no_block, taken_at}
use Rattle.tree.proofs.queue.Queue.find.Goals as goal

pub returns-in-Some : goal.returns-in-Some
returns-in-Some c =
    taken_at c.args.number.0 c.args.self.now c.in-Some.i _ c.in-Some.ensures

pub returns-in-None : goal.returns-in-None
returns-in-None c = no_block c.args.number.0 (queued c.args.self.now) c.in-None.ensures
