use Rattle.std.proofs.Common.{sym, arith}
use Rattle.posmap.specs.Maps.{leaf_numbers}
use Rattle.posmap.proofs.FlatLaws.{leaf_count, drain_coins, accepts_drain}
use Rattle.posmap.proofs.flat.methods.FlatMapPositionMap.trial_drain.Goals as goal

pub returns-then-coins-ne-COINS : goal.returns-then-coins-ne-COINS
returns-then-coins-ne-COINS c =
    let k = leaf_count c.args.coins.now in
    sym (drain_coins (leaf_numbers c.args.coins.now) (λ e. c.if-coins-ne-COINS.true (omega arith)))

pub returns : goal.returns
returns c = let k = leaf_count c.args.coins.now in sym (accepts_drain (leaf_numbers c.args.coins.now) (omega arith))
