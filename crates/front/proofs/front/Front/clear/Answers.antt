use Rattle.std.proofs.Common.{[], refl, ap, ◌∙◌}
use Rattle.front.specs.Fronts.{front_full}
use Rattle.front.proofs.Zeroed.{cleared_order, cleared_rows, cleared_unfit}
use Rattle.front.proofs.front.Front.clear.Goals as goal

pub returns : goal.returns
returns g c =
    let s = c.args.self.now.row.store in
    let p = c.args.self.now.below in
    let s' = c.clear.new.self in
    let p' = c.clear-2.new.self in
    let es = c.clear.ensures in
    let ep = c.clear-2.ensures in
    let D = c.args.self.now.row.depth in
    let st = g.S.BucketStore in
    let m = g.P.PositionMap in
    let q = c.empty-self.result in
    let e = c.empty-self.ensures in
    record {
      does = record { below = ep.does; buckets = es.holds; log = es.empties; span = es.spans; queue = e; depth = refl };
      leaves = ep.leaves;
      rows = cleared_rows 0 D (st.buckets s) (st.buckets s') q (m.leaves p) (m.leaves p') (m.rows p) (m.rows p') es.holds e
          ep.leaves ep.rows (st.span s) (st.span s') (st.log s) (st.log s') es.spans es.empties;
      unfit = λ most.
          cleared_unfit most D (st.buckets s) (st.buckets s') q (m.leaves p) (m.leaves p') (m.rows p) (m.rows p') es.holds e
          ep.leaves ep.rows (m.unfit p) (m.unfit p') ep.unfit;
      full = ap (λ xs. front_full xs (m.full p')) e ∙ ap (front_full []) ep.full;
      order = (
        ep.order,
        cleared_order 0 D (st.buckets s) (st.buckets s') q (m.leaves p) (m.leaves p') (m.rows p) (m.rows p') es.holds e
            ep.leaves ep.rows,
      );
    }
