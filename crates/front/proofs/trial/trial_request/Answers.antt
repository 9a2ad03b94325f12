use Rattle.std.proofs.Common.{◌<◌, ◌≤◌, length, rules}
use Rattle.front.proofs.Together.{few_coins, request_together}
use Rattle.front.proofs.trial.trial_request.Goals as goal

pub returns-in_default : goal.returns-in_default
returns-in_default g c =
    let xs = c.args.coins.now in
    let few : length xs < 3 = search rules in
    few_coins 3 xs _ few

pub returns : goal.returns
returns g c =
    let b = c.args.below.now in
    let s = c.args.store.now in
    let xs = c.args.coins.now in
    let many : 3 ≤ length xs = search rules in
    request_together (g.P.PositionMap.leaves b) (g.P.PositionMap.rows b) (g.P.PositionMap.unfit b) (g.P.PositionMap.full b)
    c.args.number.0 c.args.depth (g.S.BucketStore.span s) (g.S.BucketStore.log s) _ xs many c.first_of.ensures
    c.own_request-own.ensures c.trial_swap.ensures
