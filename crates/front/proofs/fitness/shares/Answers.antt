use Rattle.std.proofs.Common.{min, length, ◌∙◌}
use Rattle.front.proofs.Together.{right_count, wrong_count}
use Rattle.front.proofs.fitness.shares.Goals as goal

pub returns-then-coins-from : goal.returns-then-coins-from
returns-then-coins-from g c =
    wrong_count c.args.coins.now c.args.share (min 255 (length (g.P.PositionMap.rows c.args.below.now)))
    c.from.result c.from-2.result c.from.ensures (c.from-2.ensures ∙ c.row_count.ensures) c.if-coins-from.true

pub returns : goal.returns
returns g c =
    right_count c.args.coins.now c.args.share (min 255 (length (g.P.PositionMap.rows c.args.below.now)))
    c.from.result c.from-2.result c.from.ensures (c.from-2.ensures ∙ c.row_count.ensures) c.if-coins-from.false
