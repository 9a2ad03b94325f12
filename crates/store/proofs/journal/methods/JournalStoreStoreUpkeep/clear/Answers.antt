use Rattle.std.proofs.Common.{replicate, sym, ap, ◌∙◌}
use Rattle.std.proofs.lemmas.List.{with_items_is}
use Rattle.std.specs.Vec.{with_items}
use Rattle.store.specs.Layout.{blanked, buckets_in, used_words}
use Rattle.store.specs.Shapes.{length-replayed}
use Rattle.store.specs.Stores.{bucket_words}
use Rattle.store.specs.Tails.{replayed}
use Rattle.store.proofs.Logs.{buckets_blanked}
use Rattle.store.proofs.journal.methods.JournalStoreStoreUpkeep.clear.Goals as goal

pub returns-clause-holds : goal.returns-clause-holds
returns-clause-holds c =
    let s = c.args.self.now in
    let base = s.base.items in
    let words = with_items_is s.base c.blank.new.words (c.blank.auto.words ∙ c.deref_mut.ensures.len) ∙ c.blank.ensures
    ∙ ap (λ xs. blanked (used_words xs) xs) c.deref_mut.ensures.value in
    ap (λ k. replayed k c.clear.new.self.words.items (buckets_in (with_items s.base c.blank.new.words).items)) c.clear.ensures.used
    ∙ (buckets_blanked base _ words).1
    ∙ ap (λ k. replicate k (replicate bucket_words 0)) (sym (length-replayed s.tail.used s.tail.words.items (buckets_in base)))
