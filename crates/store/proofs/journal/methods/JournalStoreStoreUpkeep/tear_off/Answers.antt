use Rattle.std.proofs.Common.{drop, sym, ap, ◌∙◌}
use Rattle.std.proofs.lemmas.List.{with_items_is}
use Rattle.store.specs.Layout.{buckets_in, used_words}
use Rattle.store.specs.Tails.{replayed}
use Rattle.store.proofs.Journaling.{base_settled}
use Rattle.store.proofs.journal.methods.JournalStoreStoreUpkeep.tear_off.Goals as goal

pub returns-clause-base : goal.returns-clause-base
returns-clause-base c =
    let s = c.args.self.now in
    let base = s.base.items in
    let last = c.settle.new.base in
    let long = c.settle.auto.base ∙ c.deref_mut.ensures.len in
    let value = c.deref_mut.ensures.value in
    let holds = c.settle.ensures.holds ∙ ap (λ xs. replayed s.tail.used s.tail.words.items (buckets_in xs)) value in
    let past = ap (λ xs. drop (used_words xs) last) (sym value) ∙ c.settle.ensures.past ∙ ap (λ xs. drop (used_words xs) xs) value in
    with_items_is s.base last long ∙ base_settled base s.tail.words.items last s.tail.used (long ∙ s.base.ok.0) holds past
