use Rattle.tree.proofs.EntryLaws.{fetch_entry}
use Rattle.tree.proofs.path.Path.fetch_entry.Goals as goal

pub returns : goal.returns
returns c = fetch_entry c.args.self.depth c.args.self.leaf c.args.k c.bucket_at.result c.args.self.there c.bucket_at.ensures
