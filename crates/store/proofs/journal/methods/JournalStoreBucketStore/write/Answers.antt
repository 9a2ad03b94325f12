use Rattle.std.proofs.Common.{◌≡◌, ◌+◌, ◌≤◌, length, refl, ap, ◌∙◌, arith}
use Rattle.store.specs.Journals.{journal_buckets, journal_log, journal_span}
use Rattle.store.specs.Layout.{buckets_in}
use Rattle.store.specs.Shapes.{length_numbers}
use Rattle.store.specs.Stores.{bucket_words}
use Rattle.store.specs.Tails.{replayed, tail_span}
use Rattle.store.proofs.Journaling.{added_write, base_bucket}
use Rattle.store.proofs.Transfers.{admitted}
use Rattle.store.proofs.journal.methods.JournalStoreBucketStore.write.Goals as goal

pub enter-requires : goal.enter-requires
enter-requires c =
    let s = c.args.self.now in
    let a = admitted 1 (journal_span s) (journal_log s) (journal_buckets s) c.args.n.0 _ _ c.in_ok-admit.ensures in
    omega (arith, a.free, length_numbers s.tail.used s.tail.words.items)

pub returns-clause-holds : goal.returns-clause-holds
returns-clause-holds c =
    let s = c.args.self.now in
    let new = c.enter.new.self in
    let t = s.tail.words.items in
    let used = s.tail.used in
    let bs = buckets_in s.base.items in
    let n = c.args.n.0 in
    let ys = c.args.words.now in
    let long : length ys ≡ bucket_words = omega arith in
    let a = admitted 1 (journal_span s) (journal_log s) (journal_buckets s) n _ _ c.in_ok-admit.ensures in
    let free : used + 1 ≤ tail_span (length t) = omega (arith, a.free, length_numbers used t) in
    let there = base_bucket used t s.base.items n a.there in
    ap (λ k. replayed k new.tail.words.items (buckets_in new.base.items)) c.enter.ensures.used
    ∙ ap (λ ws. replayed (used + 1) new.tail.words.items (buckets_in ws)) c.enter.ensures.base
    ∙ added_write t used 1 n ys new.tail.words.items free long c.enter.ensures.tail bs refl there.0
