use Rattle.std.proofs.Common.{length, sym, ap, ◌∙◌}
use Rattle.store.specs.Layout.{bucket_count}
use Rattle.store.proofs.Journaling.{journal_long}
use Rattle.store.proofs.journal.methods.JournalStoreBucketStore.bucket_count.Goals as goal

pub returns : goal.returns
returns c =
    let s = c.args.self.now in
    c.count_buckets.ensures ∙ ap (λ ws. bucket_count (length ws)) c.deref.ensures.value
    ∙ sym (journal_long s.tail.used s.tail.words.items s.base.items)
