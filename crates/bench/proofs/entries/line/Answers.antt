use Rattle.std.proofs.Common.{◌≡◌, map, codes, refl, ap, ◌∙◌, rules}
use Rattle.std.proofs.lemmas.Result.{IfOk-weaker}
use Rattle.std.specs.Fmt.{decimal}
use Rattle.itertools.specs.Consumer.{joined}
use Rattle.bench.proofs.entries.line.Goals as goal

pub returns : goal.returns
returns g c =
    IfOk-weaker c.join.result _ _
    (λ text w.
    let m = c.map.ensures.runs w.0 w.0.seen w.1 in
    let items : w.0.items ≡ map (λ b. b.0) m.0.items = m.2.3 (λ b. b.0) (λ x r f e. search rules) in
    (m.0, m.1, m.2.0 ∙ w.2, w.3 decimal (λ x. refl) ∙ ap (joined decimal (codes ", ")) items))
    c.join.ensures.text
