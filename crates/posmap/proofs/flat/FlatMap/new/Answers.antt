use Rattle.std.proofs.Common.{◌≡◌, replicate, refl, ap, ◌∙◌, arith}
use Rattle.std.proofs.lemmas.List.{take-replicate}
use Rattle.posmap.specs.Flat.{flat_length}
use Rattle.posmap.proofs.flat.FlatMap.new.Goals as goal

pub returns : goal.returns
returns c =
    let taken : c.clamp-len.result ≡ flat_length c.args.length = omega arith in
    record {
      table = refl;
      leaves = take-replicate c.clamp-len.result 128 0 (omega arith) ∙ ap (λ n. replicate n 0) taken;
    }
