use Rattle.std.proofs.Common.{◌+◌, ◌*◌, ◌≤◌, length, ap, ◌∙◌, arith}
use Rattle.store.specs.Layout.{overwritten}
use Rattle.store.specs.Tails.{entry_words, kind_word, numbers_in, tail_span}
use Rattle.store.proofs.Journaling.{added_number}
use Rattle.store.proofs.journal.JournalStore.enter.Goals as goal

pub returns-clause-enters : goal.returns-clause-enters
returns-clause-enters c =
    let t = c.args.self.now.tail in
    let words = t.words.items in
    let free : t.used + 1 ≤ tail_span (length words) = omega (arith, c.requires) in
    ap (λ k. numbers_in k c.push.new.self.words.items) c.push.ensures.used
    ∙ added_number words t.used (kind_word c.args.kind) c.args.n.0 c.args.words.now _ free (omega arith)
    (c.push.ensures.words ∙ ap (overwritten words (entry_words * t.used)) c.lay_out.ensures)
