use Rattle.std.proofs.Common.{ap, ◌∙◌}
use Rattle.std.proofs.lemmas.List.{with_items_is}
use Rattle.store.specs.Layout.{blanked, buckets_in, used_words}
use Rattle.store.proofs.Logs.{buckets_blanked}
use Rattle.store.proofs.table.methods.TableStoreStoreUpkeep.clear.Goals as goal

pub returns-clause-holds : goal.returns-clause-holds
returns-clause-holds c =
    let s = c.args.self.now in
    let words = with_items_is s.words c.blank.new.words (c.blank.auto.words ∙ c.deref_mut.ensures.len) ∙ c.blank.ensures
    ∙ ap (λ xs. blanked (used_words xs) xs) c.deref_mut.ensures.value in
    ap buckets_in c.tear_off.ensures.words ∙ (buckets_blanked s.words.items _ words).1
