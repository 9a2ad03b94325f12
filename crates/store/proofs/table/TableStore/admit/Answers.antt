use Rattle.std.proofs.Common.{length, sym, ap, ◌∙◌, ◌/◌}
use Rattle.std.proofs.Math.Nat.{div-one}
use Rattle.store.specs.Layout.{bucket_count, span_of, start_of}
use Rattle.store.specs.Shapes.{one_wide}
use Rattle.store.specs.Stores.{answered}
use Rattle.store.specs.Tables.{table_buckets, table_log, table_span}
use Rattle.store.proofs.Logs.{buckets_long, log_long}
use Rattle.store.proofs.Transfers.{refusal_counts}
use Rattle.store.proofs.table.TableStore.admit.Goals as goal

pub returns : goal.returns
returns c =
    let s = c.args.self.now in
    let words = s.log.words.items in
    let few = one_wide s.log.used (length words) s.log.few in
    let count = buckets_long s.words.items ∙ ap (λ ws. bucket_count (length ws)) (sym c.deref.ensures.value) in
    c.admit.ensures
    ∙ ap (λ o. answered o (start_of c.args.n.0))
    (refusal_counts 1 (span_of (length words / 1)) s.log.used _ (table_span s) (table_log s) (table_buckets s) c.args.n.0
    (ap span_of (div-one (length words))) (log_long words s.log.used few) count)
