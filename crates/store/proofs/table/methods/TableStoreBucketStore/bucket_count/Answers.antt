use Rattle.std.proofs.Common.{length, sym, ap, ◌∙◌}
use Rattle.store.specs.Layout.{bucket_count}
use Rattle.store.proofs.Logs.{buckets_long}
use Rattle.store.proofs.table.methods.TableStoreBucketStore.bucket_count.Goals as goal

pub returns : goal.returns
returns c =
    c.count_buckets.ensures ∙ ap (λ ws. bucket_count (length ws)) c.deref.ensures.value ∙ sym (buckets_long c.args.self.now.words.items)
