use Rattle.std.proofs.Common.{◌∙◌}
use Rattle.tree.specs.Queues.{queued}
use Rattle.tree.proofs.QueueLaws.{no_block, no_others, left_numbered, taken_at}
use Rattle.tree.proofs.queue.Queue.take_out.Goals as goal

pub returns-in-Some : goal.returns-in-Some
returns-in-Some c =
    let b = c.index-self-i.result in
    record {
      rest = c.remove.ensures ∙ left_numbered c.args.number.0 c.args.self c.in-Some.i b c.in-Some.ensures;
      taken = taken_at c.args.number.0 c.args.self c.in-Some.i b c.in-Some.ensures;
    }

pub returns-in-None : goal.returns-in-None
returns-in-None c =
    record {
      rest = no_others c.args.number.0 (queued c.args.self) c.in-None.ensures;
      taken = no_block c.args.number.0 (queued c.args.self) c.in-None.ensures;
    }
