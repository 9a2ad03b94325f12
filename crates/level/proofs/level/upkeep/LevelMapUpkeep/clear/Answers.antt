use Rattle.std.proofs.Common.{length, ap, ◌∙◌}
use Rattle.std.proofs.lemmas.List.{length-replicate}
use Rattle.level.specs.Levels.{most_pages}
use Rattle.level.specs.Meaning.{own_row, pages_of}
use Rattle.level.proofs.Cleared.{cleared_again}
use Rattle.level.proofs.level.upkeep.LevelMapUpkeep.clear.Goals as goal

pub returns : goal.returns
returns g c =
    let s = c.args.self.now in
    let st = g.S.BucketStore in
    let m = g.P.PositionMap in
    let e = c.clear.ensures in
    let f = c.clear.new.self in
    let pages = ap length e.leaves ∙ length-replicate (pages_of m s) 0 in
    record {
      leaves = cleared_again (st.buckets s.front.row.store) (st.buckets f.row.store) f.row.queue _ _ _ _ (own_row st s) e.does.buckets
          e.does.queue (e.unfit most_pages) pages;
      rows = e.rows;
      unfit = e.unfit most_pages;
      full = e.full;
      order = e.order;
      does = e.does;
    }
