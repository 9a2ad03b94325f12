use Rattle.std.proofs.Common.{ℕ, ◌/◌, ◌%◌, get_or, drop, sym, ap, ◌∙◌, subst}
use Rattle.std.proofs.lemmas.Bool.{false≢true}
use Rattle.std.proofs.lemmas.Result.{err_from_is_err_and}
use Rattle.posmap.specs.Maps.{SwapDone, leaf_numbers, leaves_per_page}
use Rattle.front.specs.Fronts.{request_refused}
use Rattle.front.proofs.Asking.{asked_at_once}
use Rattle.front.proofs.Passed.{request_passes}
use Rattle.level.specs.declared.level.Level.{Level}
use Rattle.level.specs.Levels.{most_pages, page_words}
use Rattle.level.specs.Meaning.{Frame, LeafSwapped, Ordered, leaves_of}
use Rattle.level.proofs.Outcomes.{leaf_swaps, level_frame, swap_ordered}
use Rattle.level.proofs.RowWork.{swapped_row}
use Rattle.level.proofs.Trials.{page_there}
use Rattle.level.proofs.level.positions.LevelPositionMap.swap.Goals as goal

pub returns-in_err-found-clause-card : goal.returns-in_err-found-clause-card
returns-in_err-found-clause-card g c =
    let s = c.args.self.now in
    let st = g.S.BucketStore in
    let m = g.P.PositionMap in
    let cs = leaf_numbers c.args.coins.now in
    let a = c.in_ok-admits.ensures in
    let p = err_from_is_err_and c.from_residual-in_err-found.result c.from_residual-in_err-found.ensures.1 in
    rw (p.1, p.2)
    (c.in_err-found.ensures.card
    ∙ (ap (λ n. request_refused st m s.front n cs) c.page_number-page.ensures
    ∙ (asked_at_once st m most_pages s.front cs a.fit (c.args.number.0 / leaves_per_page) ∙ a.rest)))

pub returns : goal.returns
returns g c =
    let s = c.args.self.now in
    let f = s.front in
    let st = g.S.BucketStore in
    let m = g.P.PositionMap in
    let i = c.args.number.0 in
    let new = c.args.leaf.0 in
    let cs = leaf_numbers c.args.coins.now in
    let a = c.in_ok-admits.ensures in
    let e = c.in_ok-found.ensures in
    let page-is = c.page_number-page.ensures in
    let card =
    e.card
    ∙ (ap (λ n. request_refused st m f n cs) page-is ∙ (asked_at_once st m most_pages f cs a.fit (i / leaves_per_page) ∙ a.rest)) in
    let p = request_passes st m most_pages f.row.store f.below f.row.queue f.row.depth cs (leaves_of st m s) i new (i / leaves_per_page)
    (page_there st m s i) card in
    let f' = c.request.new.self in
    let words = c.in_ok-found.found in
    let d = e.does in
    let k = d.kept in
    let r = swapped_row st f.row f'.row d.ask i new cs words (d.number ∙ page-is) p.itself.depth d.new d.first d.second d.row d.entries in
    let lower : m.ordered f.below
    → SwapDone (m.leaves f.below) (m.leaves f'.below) (m.rows f.below) (m.rows f'.below) (i / leaves_per_page) (get_or cs 0 0) (drop 3 cs) d.ask.shown.0 =
    λ o. subst (λ n. SwapDone (m.leaves f.below) (m.leaves f'.below) (m.rows f.below) (m.rows f'.below) n (get_or cs 0 0) (drop 3 cs) d.ask.shown.0) page-is (d.swapped o) in
    let page = page_there st m s i p.whole_fit p.there in
    let T : ℕ → Level _ _ = λ k. record { front = record { row = record { store = f'.row.store; queue = f'.row.queue; depth = k }; below = f'.below } } in
    let deep = sym k.row_stays.depth in
    record {
      card = card;
      frame = subst (λ n. Frame st m s (T n)) deep
          (level_frame st m s f'.row.store f'.below f'.row.queue k.map_stays k.row_stays.count k.row_stays.span);
      order = λ o.
          subst (λ n. Ordered st m (T n)) deep (
            d.order o.0,
            swap_ordered st m s f'.row.store f'.below f'.row.queue k.map_stays k.row_stays.count k.row_stays.span i new d.ask.shown.0 cs r.row o.1
                (lower o.0) page p.in_tree.0 p.room,
          );
      refused = λ e. absurd (false≢true e);
      same = λ e. absurd (false≢true e);
      done = λ o.
          subst (λ n. LeafSwapped st m s (T n) i new cs c.leaf.result.0) deep
          (leaf_swaps st m s f'.row.store f'.below f'.row.queue k.map_stays k.row_stays.count k.row_stays.span i new d.ask.shown.0 cs r.row o.1 (lower o.0)
          page p.in_tree.0 p.room c.leaf.result.0 p.whole_fit
          (c.leaf.ensures ∙ ap (λ ws. get_or ws (i % 8) 0) (c.page_in.ensures ∙ ap page_words r.finds)));
      does = record {
        below = subst (λ n. m.swapped f.below n (get_or cs 0 0) (drop 3 cs) f'.below) page-is d.below;
        shown = d.ask.shown.0;
        row = r.row;
        depth = k.row_stays.depth;
        span = k.row_stays.span;
        count = k.row_stays.count;
      };
    }
