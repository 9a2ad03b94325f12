use Rattle.std.proofs.Common.{take, drop, ap, ◌∙◌, arith}
use Rattle.store.specs.Stores.{bucket_words}
use Rattle.store.specs.Tables.{table_buckets, table_log, table_span}
use Rattle.store.proofs.Logs.{bucket_within, bucket_words_lem, buckets_long}
use Rattle.store.proofs.Transfers.{admitted}
use Rattle.store.proofs.table.methods.TableStoreBucketStore.read.Goals as goal

pub copy_out-requires : goal.copy_out-requires
copy_out-requires c =
    let s = c.args.self.now in
    let a = admitted 1 (table_span s) (table_log s) (table_buckets s) c.args.n.0 _ _ c.in_ok-at.ensures in
    let w = bucket_within s.words.items c.args.n.0 a.low (omega (arith, a.high, buckets_long s.words.items)) in
    omega (arith, w.0, w.1, a.same, c.deref.ensures.len, s.words.ok.0)

pub returns-clause-place : goal.returns-clause-place
returns-clause-place c =
    let s = c.args.self.now in
    let n = c.args.n.0 in
    let a = admitted 1 (table_span s) (table_log s) (table_buckets s) n _ _ c.in_ok-at.ensures in
    c.copy_out.ensures ∙ ap (λ ws. take bucket_words (drop c.in_ok-at.at ws)) c.deref.ensures.value
    ∙ ap (λ at. take bucket_words (drop at s.words.items)) a.same
    ∙ bucket_words_lem s.words.items n a.low (omega (arith, a.high, buckets_long s.words.items))
