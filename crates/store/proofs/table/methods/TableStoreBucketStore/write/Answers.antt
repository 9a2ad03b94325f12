use Rattle.std.proofs.Common.{ap, ◌∙◌, arith}
use Rattle.std.proofs.lemmas.List.{with_items_is}
use Rattle.store.specs.Layout.{overwritten}
use Rattle.store.specs.Tables.{table_buckets, table_log, table_span}
use Rattle.store.proofs.Logs.{bucket_within, buckets_long}
use Rattle.store.proofs.Transfers.{admitted, written_admitted}
use Rattle.store.proofs.table.methods.TableStoreBucketStore.write.Goals as goal

pub copy_in-requires : goal.copy_in-requires
copy_in-requires c =
    let s = c.args.self.now in
    let a = admitted 1 (table_span s) (table_log s) (table_buckets s) c.args.n.0 _ _ c.in_ok-at.ensures in
    let w = bucket_within s.words.items c.args.n.0 a.low (omega (arith, a.high, buckets_long s.words.items)) in
    omega (arith, w.0, w.1, a.same, c.deref_mut.ensures.len, s.words.ok.0)

pub returns-clause-holds : goal.returns-clause-holds
returns-clause-holds c =
    let s = c.args.self.now in
    let from = c.args.words.now in
    (written_admitted (table_span s) (table_log s) s.words.items c.args.n.0 c.in_ok-at.at from _ c.in_ok-at.ensures (omega arith)
    (c.enter.ensures.words ∙ with_items_is s.words c.copy_in.new.words (c.copy_in.auto.words ∙ c.deref_mut.ensures.len)
    ∙ c.copy_in.ensures ∙ ap (λ ws. overwritten ws c.in_ok-at.at from) c.deref_mut.ensures.value)).holds

pub returns-clause-past : goal.returns-clause-past
returns-clause-past c =
    let s = c.args.self.now in
    let from = c.args.words.now in
    (written_admitted (table_span s) (table_log s) s.words.items c.args.n.0 c.in_ok-at.at from _ c.in_ok-at.ensures (omega arith)
    (c.enter.ensures.words ∙ with_items_is s.words c.copy_in.new.words (c.copy_in.auto.words ∙ c.deref_mut.ensures.len)
    ∙ c.copy_in.ensures ∙ ap (λ ws. overwritten ws c.in_ok-at.at from) c.deref_mut.ensures.value)).past
