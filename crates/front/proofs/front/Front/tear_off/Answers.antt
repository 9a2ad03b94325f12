use Rattle.std.proofs.Common.{length, refl, ap, ◌∙◌}
use Rattle.tree.specs.Queues.{queued}
use Rattle.front.specs.Fronts.{front_full}
use Rattle.front.proofs.Zeroed.{same_unfit, torn_long, torn_rows}
use Rattle.front.proofs.front.Front.tear_off.Goals as goal

pub returns : goal.returns
returns g c =
    let v = c.args.self.now in
    let s = v.row.store in
    let p = v.below in
    let s' = c.tear_off.new.self in
    let p' = c.tear_off-2.new.self in
    let es = c.tear_off.ensures in
    let ep = c.tear_off-2.ensures in
    let D = v.row.depth in
    let st = g.S.BucketStore in
    let m = g.P.PositionMap in
    record {
      does = record { below = ep.does; buckets = es.holds; log = es.empties; span = es.spans; queue = refl; depth = refl };
      leaves = ep.leaves;
      rows = torn_rows D (m.leaves p) (m.leaves p') (m.rows p) (m.rows p') (st.span s) (st.span s') (st.log s) (st.log s') ep.leaves ep.rows es.spans es.empties;
      unfit = λ most. same_unfit most D (ap length es.holds) (ap length ep.leaves) (ap length ep.rows ∙ torn_long (m.rows p)) ep.unfit;
      full = ap (front_full (queued v.row.queue)) ep.full;
      order = λ o. (ep.order o.0, rw (ep.leaves, es.holds) o.1);
    }
