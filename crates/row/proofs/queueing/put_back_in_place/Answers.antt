use Rattle.std.proofs.Common.{None, sym, ap, ◌∙◌}
use Rattle.std.specs.Result.{result_err}
use Rattle.row.proofs.TrialLaws.{root_passed}
use Rattle.row.proofs.queueing.put_back_in_place.Goals as goal

pub put_back_root-requires-clause-some : goal.put_back_root-requires-clause-some
put_back_root-requires-clause-some g c =
    root_passed g.S.BucketStore c.args.store.now c.args.depth None 2 None (sym (ap result_err c.in_ok-trial.was) ∙ c.trial.ensures)
