use Rattle.std.proofs.Common.{◌<◌, false, length, sym, refl, ap, ◌∙◌, arith, length-set}
use lib.Seq.{take-set-lt}
use Rattle.std.proofs.lemmas.List.{get_or-take}
use Rattle.std.proofs.lemmas.Bool.{both_ways}
use Rattle.posmap.specs.Flat.{flat_leaves}
use Rattle.posmap.specs.Maps.{leaf_numbers}
use Rattle.posmap.proofs.FlatLaws.{leaves_long, swaps_within}
use Rattle.posmap.proofs.flat.methods.FlatMapPositionMap.swap.Goals as goal

pub returns : goal.returns
returns c =
    let s = c.args.self.now in
    let i = c.args.number.0 in
    let new = c.args.leaf.0 in
    let passed = c.in_ok-trial_swap.ensures in
    let within : i < s.len =
    omega (arith, swaps_within (flat_leaves s) (leaf_numbers c.args.coins.now) i new passed, leaves_long s) in
    let e = take-set-lt s.len s.table i new within in
    record {
      card = passed;
      frame = record { length_stays = ap length e ∙ length-set (flat_leaves s) i new; rows_stay = refl; unfit_stays = refl };
      order = λ u. u;
      refused = λ f. absurd (both_ways false refl f);
      done = λ _. record { shown = sym (get_or-take s.len s.table i 0 within); sets_leaf = e; rows_asked = refl };
      does = record { table_is = refl; len_stays = refl };
      same = λ f. absurd (both_ways false refl f);
    }
