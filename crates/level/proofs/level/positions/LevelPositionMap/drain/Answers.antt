use Rattle.std.proofs.Common.{ℕ, sym, ◌∙◌, subst}
use Rattle.std.proofs.lemmas.Bool.{false≢true}
use Rattle.std.proofs.lemmas.Result.{err_from_is_err_and}
use Rattle.posmap.specs.Maps.{leaf_numbers}
use Rattle.front.proofs.Asking.{drained_at_once}
use Rattle.front.proofs.Fits.{drain_rest, none_named}
use Rattle.level.specs.declared.level.Level.{Level}
use Rattle.level.specs.Levels.{RowDrained, most_pages}
use Rattle.level.specs.Meaning.{Frame, Ordered, RowsDrained, own_row, unfit_of}
use Rattle.level.proofs.Outcomes.{drain_ordered, level_frame, rows_drain}
use Rattle.level.proofs.level.positions.LevelPositionMap.drain.Goals as goal

pub returns-in_err-drain-clause-card : goal.returns-in_err-drain-clause-card
returns-in_err-drain-clause-card g c =
    let s = c.args.self.now in
    let f = s.front in
    let st = g.S.BucketStore in
    let m = g.P.PositionMap in
    let cs = leaf_numbers c.args.coins.now in
    let fit = none_named 1 (unfit_of st m s) c.in_ok-fit.ensures in
    let p = err_from_is_err_and c.from_residual-in_err-drain.result c.from_residual-in_err-drain.ensures.1 in
    rw (p.1, p.2)
    (c.in_err-drain.ensures.card
    ∙ (drained_at_once st m most_pages f cs fit ∙ drain_rest st m most_pages f.row.store f.below f.row.depth cs fit c.in_ok-shares.ensures))

pub returns : goal.returns
returns g c =
    let s = c.args.self.now in
    let f = s.front in
    let st = g.S.BucketStore in
    let m = g.P.PositionMap in
    let cs = leaf_numbers c.args.coins.now in
    let fit = none_named 1 (unfit_of st m s) c.in_ok-fit.ensures in
    let f' = c.drain.new.self in
    let e = c.in_ok-drain.ensures in
    let d = e.does in
    let k = d.kept in
    let r : RowDrained f.row.depth (own_row st s) (own_row st (record { front = f' })) (st.log f.row.store) (st.log f'.row.store) cs =
    record { row = d.row; entries = d.entries } in
    let T : ℕ → Level _ _ = λ k. record { front = record { row = record { store = f'.row.store; queue = f'.row.queue; depth = k }; below = f'.below } } in
    let deep = sym k.row_stays.depth in
    record {
      card = e.card ∙ (drained_at_once st m most_pages f cs fit ∙ drain_rest st m most_pages f.row.store f.below f.row.depth cs fit c.in_ok-shares.ensures);
      frame = subst (λ n. Frame st m s (T n)) deep
          (level_frame st m s f'.row.store f'.below f'.row.queue k.map_stays k.row_stays.count k.row_stays.span);
      order = λ o.
          subst (λ n. Ordered st m (T n)) deep (
            d.order o.0,
            drain_ordered st m s f'.row.store f'.below f'.row.queue k.map_stays k.row_stays.count k.row_stays.span cs r o.1 (d.drained o.0),
          );
      refused = λ e. absurd (false≢true e);
      same = λ e. absurd (false≢true e);
      done = λ o.
          subst (λ n. RowsDrained st m s (T n) cs) deep
          (rows_drain st m s f'.row.store f'.below f'.row.queue k.map_stays k.row_stays.count k.row_stays.span cs r o.1 (d.drained o.0) fit);
      does = record {
        below = d.below;
        row = r;
        depth = k.row_stays.depth;
        span = k.row_stays.span;
        count = k.row_stays.count;
      };
    }
