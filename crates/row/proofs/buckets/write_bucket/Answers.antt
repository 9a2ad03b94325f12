use Rattle.std.proofs.Common.{◌≡◌, true, is_ok, ap, ◌∙◌}
use Rattle.tree.specs.Places.{places_of}
use Rattle.row.proofs.RowLaws.{written}
use Rattle.row.proofs.buckets.write_bucket.Goals as goal

pub returns-clause-holds : goal.returns-clause-holds
returns-clause-holds g c =
    let bs = g.S.BucketStore.buckets c.args.store.now in
    let words = c.to_words.ensures in
    let ok : is_ok c.write.result ≡ true = ap is_ok c.unwrap.ensures in
    written bs c.args.n.0 c.to_words.result (rw ok at c.write.ensures.holds) (ap places_of words.value ∙ words.again c.args.bucket.now)
