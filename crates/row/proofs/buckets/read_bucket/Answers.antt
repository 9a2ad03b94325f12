use Rattle.std.proofs.Common.{◌≡◌, true, is_ok, ap}
use Rattle.row.proofs.RowLaws.{read_places}
use Rattle.row.proofs.buckets.read_bucket.Goals as goal

pub returns-clause-places : goal.returns-clause-places
returns-clause-places g c =
    let bs = g.S.BucketStore.buckets c.args.store.now in
    let ok : is_ok c.read.result ≡ true = ap is_ok c.unwrap.ensures in
    read_places bs c.args.n.0 c.requires.some.0 c.requires.some.1 (rw ok at c.read.ensures.place) c.from_words.ensures.value
