use Rattle.std.proofs.Common.{replicate, sym, refl, ap, ◌∙◌}
use Rattle.std.proofs.lemmas.List.{take-replicate}
use Rattle.posmap.proofs.FlatLaws.{leaves_long}
use Rattle.posmap.proofs.flat.methods.FlatMapMapUpkeep.clear.Goals as goal

pub returns : goal.returns
returns c =
    let s = c.args.self.now in
    record {
      leaves = take-replicate s.len 128 0 s.few ∙ ap (λ n. replicate n 0) (sym (leaves_long s));
      rows = refl;
      unfit = refl;
      full = refl;
      order = tt;
      does = record { table_is = refl; len_stays = refl };
    }
