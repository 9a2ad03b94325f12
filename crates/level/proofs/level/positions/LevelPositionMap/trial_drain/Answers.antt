use Rattle.std.proofs.Common.{◌∙◌}
use Rattle.posmap.specs.Maps.{leaf_numbers}
use Rattle.front.proofs.Fits.{drain_rest, none_named}
use Rattle.level.specs.Levels.{most_pages}
use Rattle.level.specs.Meaning.{unfit_of}
use Rattle.level.proofs.level.positions.LevelPositionMap.trial_drain.Goals as goal

pub returns : goal.returns
returns g c =
    let s = c.args.self.now in
    let st = g.S.BucketStore in
    let m = g.P.PositionMap in
    c.trial_drain.ensures
    ∙ drain_rest st m most_pages s.front.row.store s.front.below s.front.row.depth (leaf_numbers c.args.coins.now) (none_named 1 (unfit_of st m s) c.in_ok-fit.ensures) c.in_ok-shares.ensures
