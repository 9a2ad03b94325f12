use Rattle.std.proofs.Common.{length, ap, ◌∙◌}
use Rattle.posmap.specs.Maps.{row_at}
use Rattle.history.proofs.Logs.{counted}
use Rattle.oram.specs.Orams.{rows_of}
use Rattle.oram.proofs.oram.Oram.row_used.Goals as goal

pub returns : goal.returns
returns g c =
    record {
      value = c.row_used.ensures;
      counted = λ h w l.
          c.row_used.ensures
          ∙ (ap length (w.logs c.args.row l)
          ∙ (counted g.row.K.Denot).entries (row_at (rows_of g.S.BucketStore g.P.PositionMap c.args.self.now) c.args.row).depth c.args.row h);
    }
