-- The blocks of a queue, first to last.
use Rattle.std.specs.Prelude.{◌≡◌, ◌≤◌, true, List, length, take}
use Rattle.tree.specs.Blocks.{apart, capacity}
use Rattle.tree.specs.declared.block.Block.{Block}
use Rattle.tree.specs.declared.queue.Queue.{Queue}

abbrev pub queued : Queue → List Block
queued q = take q.count q.blocks

-- every queue that exists has at most thirty-two blocks, no number twice
abbrev pub QueueLaw : Type 0
QueueLaw = (q : Queue) → (length (queued q) ≤ capacity) × (apart (queued q) ≡ true)
