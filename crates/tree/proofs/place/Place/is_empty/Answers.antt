use Rattle.std.proofs.Common.{◌&&◌, ◌∙◌, eqb, ap}
use Rattle.std.specs.Cmp.Lexicographic.{pointwise}
use Rattle.tree.specs.declared.place.Place.{Place}
use Rattle.tree.proofs.PlaceLaws.{zero_words}
use Rattle.tree.proofs.place.Place.is_empty.Goals as goal

pub returns : goal.returns
returns c =
    let p = c.args.self.now in
    let same = λ (q : Place). eqb p.mark q.mark && (eqb p.leaf q.leaf && pointwise eqb p.words q.words) in
    c.eq.ensures ∙ (ap same c.empty.ensures ∙ ap (λ b. eqb p.mark 0 && (eqb p.leaf 0 && b)) (zero_words 8 p.words p.eight))
