use Rattle.std.proofs.Common.{length, sym, refl, ap, ◌∙◌}
use Rattle.store.specs.Journals.{journal_buckets, journal_log, journal_span}
use Rattle.store.specs.Layout.{bucket_count, start_of}
use Rattle.store.specs.Shapes.{length_numbers}
use Rattle.store.specs.Stores.{answered}
use Rattle.store.proofs.Journaling.{journal_long}
use Rattle.store.proofs.Transfers.{refusal_counts}
use Rattle.store.proofs.journal.JournalStore.admit.Goals as goal

pub returns : goal.returns
returns c =
    let s = c.args.self.now in
    let t = s.tail in
    let count = journal_long t.used t.words.items s.base.items ∙ ap (λ ws. bucket_count (length ws)) (sym c.deref.ensures.value) in
    c.admit.ensures
    ∙ ap (λ o. answered o (start_of c.args.n.0))
    (refusal_counts 1 (journal_span s) t.used _ (journal_span s) (journal_log s) (journal_buckets s) c.args.n.0 refl
    (length_numbers t.used t.words.items) count)
