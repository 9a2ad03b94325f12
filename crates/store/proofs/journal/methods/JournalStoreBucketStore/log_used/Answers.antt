use Rattle.std.proofs.Common.{sym}
use Rattle.store.specs.Shapes.{length_numbers}
use Rattle.store.proofs.journal.methods.JournalStoreBucketStore.log_used.Goals as goal

pub returns : goal.returns
returns c = let t = c.args.self.now.tail in sym (length_numbers t.used t.words.items)
