use Rattle.std.proofs.Common.{◌≡◌, ◌<◌, true, map, length, is_some, arith, rules}
use Rattle.tree.specs.Places.{lowest_empty}
use Rattle.tree.proofs.ChoiceLaws.{best-chosen, best_keeps, best_moves, best_same, best_takes, score_at, scored}
use Rattle.tree.proofs.bucket.Bucket.chosen.Goals as goal
use Rattle.tree.proofs.bucket.Bucket.chosen.Goals.{then-score-top, else-score-top}

pub loop-i-preserved : goal.loop-i-preserved
loop-i-preserved c =
    let D = c.args.depth in
    let m = c.args.leaf.0 in
    let d = c.args.layer in
    let ps = c.args.self.now.places in
    let ss = map (scored D m d) ps in
    let i = c.loop-i.i in
    let h : i < length ps = omega (arith, c.args.self.now.four) in
    let s = score_at D m d ps i c.score-score.result _ h c.score-score.ensures in
    elim c.if-score-top.branch [
      | then-score-top w ↦
          best_same ss _ _ _ _ _ w.top-is w.best-is (best_takes ss i _ _ _ s w.if-score-top.true c.loop-i.invariant)
      | else-score-top w ↦
          best_same ss _ _ _ _ _ w.top-is w.best-is (best_keeps ss i _ _ _ s w.if-score-top.false c.loop-i.invariant)
    ]

pub returns : goal.returns
returns c =
    let D = c.args.depth in
    let m = c.args.leaf.0 in
    let d = c.args.layer in
    let parent = c.args.self.now.places in
    let child = c.args.child.now.places in
    let n : c.loop-i.i ≡ length parent = omega (arith, c.args.self.now.four) in
    let room : is_some (lowest_empty child) ≡ true = search rules in
    record {
      value = best-chosen D m d parent child _ _ _ n room c.loop-i.invariant;
      moves = best_moves D m d parent child _ _ _ n room c.loop-i.invariant;
      within = search rules;
    }
