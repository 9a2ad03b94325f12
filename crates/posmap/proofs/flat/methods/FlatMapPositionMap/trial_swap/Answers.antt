use Rattle.std.proofs.Common.{sym, arith}
use Rattle.posmap.specs.Flat.{flat_leaves}
use Rattle.posmap.specs.Maps.{leaf_numbers}
use Rattle.posmap.proofs.FlatLaws.{leaf_count, leaves_long, refuses_number, refuses_coins, refuses_leaf, accepts_swap}
use Rattle.posmap.proofs.flat.methods.FlatMapPositionMap.trial_swap.Goals as goal

pub returns-then-number-self : goal.returns-then-number-self
returns-then-number-self c =
    let n = leaves_long c.args.self.now in
    sym (refuses_number (flat_leaves c.args.self.now) (leaf_numbers c.args.coins.now) c.args.number.0 c.args.leaf.0
    (omega arith))

pub returns-then-coins-ne-COINS : goal.returns-then-coins-ne-COINS
returns-then-coins-ne-COINS c =
    let n = leaves_long c.args.self.now in
    let k = leaf_count c.args.coins.now in
    sym (refuses_coins (flat_leaves c.args.self.now) (leaf_numbers c.args.coins.now) c.args.number.0 c.args.leaf.0
    (omega arith) (λ e. c.if-coins-ne-COINS.true (omega arith)))

pub returns-then-leaf-gt-WIDEST_LEAF : goal.returns-then-leaf-gt-WIDEST_LEAF
returns-then-leaf-gt-WIDEST_LEAF c =
    let n = leaves_long c.args.self.now in
    let k = leaf_count c.args.coins.now in
    sym (refuses_leaf (flat_leaves c.args.self.now) (leaf_numbers c.args.coins.now) c.args.number.0 c.args.leaf.0
    (omega arith) (omega arith) (omega arith))

pub returns : goal.returns
returns c =
    let n = leaves_long c.args.self.now in
    let k = leaf_count c.args.coins.now in
    sym (accepts_swap (flat_leaves c.args.self.now) (leaf_numbers c.args.coins.now) c.args.number.0 c.args.leaf.0
    (omega arith) (omega arith) (omega arith))
