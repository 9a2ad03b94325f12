use Rattle.std.proofs.Common.{length, ap, ◌∙◌}
use Rattle.std.proofs.lemmas.List.{length-replicate}
use Rattle.level.specs.Levels.{most_pages}
use Rattle.level.proofs.Cleared.{cleared_leaves}
use Rattle.level.proofs.level.Level.begin.Goals as goal

pub returns : goal.returns
returns g c =
    let st = g.S.BucketStore in
    let m = g.P.PositionMap in
    let e = c.clear.ensures in
    let f = c.clear.new.self in
    let pages = ap length e.leaves ∙ length-replicate (length (m.leaves c.args.below)) 0 in
    record {
      depth = e.does.depth;
      span = e.does.span;
      buckets = e.does.buckets;
      log = e.does.log;
      queue = e.does.queue;
      below = e.does.below;
      rows = e.rows;
      unfit = e.unfit most_pages;
      leaves = cleared_leaves (st.buckets c.args.store) (st.buckets f.row.store) f.row.queue _ _ _ _ e.does.buckets e.does.queue
          (e.unfit most_pages) pages;
      full = e.full;
      order = e.order;
    }
