use Rattle.std.proofs.Common.{get_or, ap, ◌∙◌}
use Rattle.std.proofs.lemmas.Result.{err_from_is_err_and}
use Rattle.store.specs.Tails.{entry_words}
use Rattle.store.proofs.Chunks.{get_or-first_chunks}
use Rattle.store.proofs.Entries.{number_cut}
use Rattle.store.proofs.Journaling.{number_read, number_missing}
use Rattle.store.proofs.journal.methods.JournalStoreBucketStore.log_entry.Goals as goal

pub returns-in_err-entry : goal.returns-in_err-entry
returns-in_err-entry c =
    let t = c.args.self.now.tail in
    let p = err_from_is_err_and c.from_residual.result c.from_residual.ensures.1 in
    rw (p.1, p.2, c.in_err-entry.ensures.1) (number_missing t.words.items t.used c.args.k c.in_err-entry.ensures.0)

pub returns : goal.returns
returns c =
    let t = c.args.self.now.tail in
    let tail = t.words.items in
    let k = c.args.k in
    let there = c.in_ok-entry.ensures in
    number_read tail t.used k _ there.0
    (ap (λ e. get_or e 1 0) (there.1 ∙ get_or-first_chunks entry_words t.used tail k there.0) ∙ number_cut tail k)
