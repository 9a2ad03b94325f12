use Rattle.std.proofs.Common.{◌≡◌, codes, refl, ap, ◌∙◌, rules}
use Rattle.std.proofs.lemmas.Result.{IfOk-weaker}
use Rattle.itertools.specs.Consumer.{joined}
use Rattle.bench.specs.Placed.{blocks_along, placed_text}
use Rattle.bench.proofs.flushes.flushed.Goals as goal

pub returns : goal.returns
returns c =
    IfOk-weaker c.join.result _ _
    (λ text w.
    let all : w.0.items ≡ blocks_along c.flush_path-after.result = search rules in
    record {
      before = record { root = c.args.root; middle = c.args.middle; last = c.empty.result };
      root_is = refl;
      middle_is = refl;
      last_is = c.empty.ensures;
      after = c.flush_path-after.result;
      flushed = c.flush_path-after.ensures;
      says = w.3 placed_text (λ x. refl) ∙ ap (joined placed_text (codes ", ")) all;
    })
    c.join.ensures.text
