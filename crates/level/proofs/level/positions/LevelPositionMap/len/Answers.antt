use Rattle.std.proofs.Common.{◌*◌, sym, ap, ◌∙◌}
use Rattle.front.proofs.Fits.{none_named}
use Rattle.level.specs.Meaning.{unfit_of}
use Rattle.level.proofs.Trials.{eight_each, unfit_none}
use Rattle.level.proofs.level.positions.LevelPositionMap.len.Goals.{in-Ok, in-Err}
use Rattle.level.proofs.level.positions.LevelPositionMap.len.Goals as goal

pub returns : goal.returns
returns g c =
    let s = c.args.self.now in
    let st = g.S.BucketStore in
    let m = g.P.PositionMap in
    elim c.match-fit.branch [
      | in-Ok w ↦
          w.result-is
          ∙ (ap (λ k. 8 * k) w.len.ensures ∙ sym (eight_each st m s (none_named 1 (unfit_of st m s) w.in-Ok.ensures)))
      | in-Err w ↦ w.result-is ∙ unfit_none st m s _ w.in-Err.ensures
    ]
