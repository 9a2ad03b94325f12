use Rattle.std.proofs.Common.{arith}
use Rattle.tree.proofs.Counts.{flush_long}
use Rattle.tree.proofs.EntryLaws.{flush_entry}
use Rattle.tree.proofs.path.Path.flush_entry.Goals as goal

pub returns-then-k-depth : goal.returns-then-k-depth
returns-then-k-depth c = λ _. let long = flush_long c.args.self.depth c.args.self.leaf.0 in omega arith

pub returns : goal.returns
returns c =
    flush_entry c.args.self.depth c.args.self.leaf c.args.k c.flush_layer.result c.bucket_at.result
    c.args.self.there c.bucket_at.ensures c.flush_layer.ensures (omega arith)
