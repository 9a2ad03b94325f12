use Rattle.std.proofs.Common.{[], get_or, take, drop, sym, ap, ◌∙◌, arith}
use Rattle.store.specs.Layout.{buckets_in}
use Rattle.store.specs.Stores.{bucket_of, bucket_words}
use Rattle.store.specs.Tails.{entry_words, words_at}
use Rattle.store.proofs.Chunks.{get_or-first_chunks}
use Rattle.store.proofs.Entries.{words_cut}
use Rattle.store.proofs.Journaling.{base_bucket, latest-none, latest-some}
use Rattle.store.proofs.Logs.{bucket_within, bucket_words_lem}
use Rattle.store.proofs.Replays.{latest_found, replayed-latest}
use Rattle.store.proofs.journal.JournalStore.look_up.Goals as goal

pub copy_out-requires : goal.copy_out-requires
copy_out-requires c =
    let s = c.args.self.now in
    let b = base_bucket s.tail.used s.tail.words.items s.base.items c.args.n.0 c.requires.0 in
    let w = bucket_within s.base.items c.args.n.0 b.1 b.2 in
    omega (arith, w.0, w.1, c.requires.1, c.deref.ensures.len, s.base.ok.0)

pub returns-in-Some : goal.returns-in-Some
returns-in-Some c =
    let s = c.args.self.now in
    let used = s.tail.used in
    let tail = s.tail.words.items in
    let n = c.args.n.0 in
    let k = c.in-Some.k in
    let old = bucket_of (buckets_in s.base.items) n in
    let b = base_bucket used tail s.base.items n c.requires.0 in
    let entries = c.entries-entries.ensures in
    let at = latest_found tail used n _ c.latest_write.result entries.value entries.count c.latest_write.ensures ∙ c.in-Some.is in
    let newest = c.copy_from_slice.ensures.after ∙ c.words_in.ensures.value
    ∙ ap (λ es. words_at (get_or es k []) 0) entries.value
    ∙ ap (λ e. words_at e 0) (get_or-first_chunks entry_words used tail k (omega (arith, entries.count, c.in-Some.ensures.0)))
    ∙ words_cut tail k ∙ latest-some used tail n k old (sym at) in
    record { place = newest ∙ sym (replayed-latest used tail (buckets_in s.base.items) n b.0); newest = newest }

pub returns-in-None : goal.returns-in-None
returns-in-None c =
    let s = c.args.self.now in
    let used = s.tail.used in
    let tail = s.tail.words.items in
    let n = c.args.n.0 in
    let old = bucket_of (buckets_in s.base.items) n in
    let b = base_bucket used tail s.base.items n c.requires.0 in
    let entries = c.entries-entries.ensures in
    let none = latest_found tail used n _ c.latest_write.result entries.value entries.count c.latest_write.ensures ∙ c.in-None.is in
    let newest = c.copy_out.ensures ∙ ap (λ ws. take bucket_words (drop c.args.start ws)) c.deref.ensures.value
    ∙ ap (λ a. take bucket_words (drop a s.base.items)) c.requires.1 ∙ bucket_words_lem s.base.items n b.1 b.2
    ∙ latest-none used tail n old (sym none) in
    record { place = newest ∙ sym (replayed-latest used tail (buckets_in s.base.items) n b.0); newest = newest }
