use Rattle.std.proofs.Common.{◌≡◌, ◌-◌, ◌<◌, true, length, get_or, is_ok, take, drop, sym, refl, ap, ◌∙◌, subst, arith, rules}
use Rattle.std.proofs.lemmas.Bool.{false≢true}
use Rattle.std.proofs.lemmas.Result.{IfOk-at_ok}
use Rattle.posmap.specs.Maps.{SwapDone, leaf_numbers, swap_refusal}
use Rattle.row.specs.declared.requests.Ask.{Ask}
use Rattle.row.proofs.TrialLaws.{none_ok, request_passes}
use Rattle.front.proofs.Asking.{request_told}
use Rattle.front.proofs.Coins.{at, left, length_numbers, numbers_at}
use Rattle.front.proofs.Fits.{no_card}
use Rattle.front.proofs.front.Front.request.Goals as goal

pub returns-in_default : goal.returns-in_default
returns-in_default g c =
    let xs = c.args.coins.now in
    let few : length xs < 3 = search rules in
    let p = request_told g.S.BucketStore g.P.PositionMap c.args.self.now (leaf_numbers xs) c.args.number.0 (sym (sym c.in_ok-trial_request.ensures)) in
    let n = length_numbers xs in
    let m = p.many in
    absurd (let z : ⊥ = omega arith in z)

pub returns-in_err-shown : goal.returns-in_err-shown
returns-in_err-shown g c =
    let xs = c.args.coins.now in
    let b = c.args.self.now.below in
    let m = g.P.PositionMap in
    let p = request_told g.S.BucketStore m c.args.self.now (leaf_numbers xs) c.args.number.0 c.in_ok-trial_request.ensures in
    let ask = swap_refusal (m.leaves b) (m.rows b) (m.unfit b) (m.full b) c.args.number.0 in
    let rest = leaf_numbers (take (length xs - 3) (drop 3 xs)) in
    let same : ask (at xs 0) rest ≡ ask (get_or (leaf_numbers xs) 0 0) (drop 3 (leaf_numbers xs)) =
    ap (λ a. ask a rest) (numbers_at xs 0) ∙ ap (ask (get_or (leaf_numbers xs) 0 0)) (left 3 xs) in
    absurd (no_card (p.lower ∙ (sym same ∙ sym c.in_err-shown.ensures.card)))

pub unwrap-found-requires : goal.unwrap-found-requires
unwrap-found-requires g c =
    let f = c.args.self.now in
    let xs = c.args.coins.now in
    let p = request_told g.S.BucketStore g.P.PositionMap f (leaf_numbers xs) c.args.number.0 c.in_ok-trial_request.ensures in
    let ask : Ask = record {
      number = c.args.number;
      shown = c.in_ok-shown.shown;
      new = record { 0 = at xs 0 };
      first = record { 0 = at xs 1 };
      second = record { 0 = at xs 2 };
    } in
    none_ok c.request.result
    (c.request.ensures.answer
    ∙ request_passes g.S.BucketStore f.row ask (sym c.is_fit.ensures ∙ c.if-not-is_fit.false) (rw (numbers_at xs 0) p.in_tree.0)
    (rw (numbers_at xs 1) p.in_tree.1) (rw (numbers_at xs 2) p.in_tree.2) p.free p.room)

pub returns : goal.returns
returns g c =
    let f = c.args.self.now in
    let xs = c.args.coins.now in
    let cs = leaf_numbers xs in
    let n = c.args.number.0 in
    let m = g.P.PositionMap in
    let b = f.below in
    let b' = c.swap.new.self in
    let d = c.in_ok-shown.ensures in
    let e = c.request.ensures in
    let shown = c.in_ok-shown.shown.0 in
    let rest = leaf_numbers (take (length xs - 3) (drop 3 xs)) in
    let ok : is_ok c.request.result ≡ true = ap is_ok c.unwrap-found.ensures in
    let lower : SwapDone (m.leaves b) (m.leaves b') (m.rows b) (m.rows b') n (at xs 0) rest shown
    → SwapDone (m.leaves b) (m.leaves b') (m.rows b) (m.rows b') n (get_or cs 0 0) (drop 3 cs) shown =
    λ x. subst (λ k. SwapDone (m.leaves b) (m.leaves b') (m.rows b) (m.rows b') n (get_or cs 0 0) k shown) (left 3 xs)
    (subst (λ a. SwapDone (m.leaves b) (m.leaves b') (m.rows b) (m.rows b') n a rest shown) (numbers_at xs 0) x) in
    record {
      card = rw (sym c.is_fit.ensures ∙ c.if-not-is_fit.false) c.in_ok-trial_request.ensures;
      does = record {
        kept = record { map_stays = d.frame; row_stays = e.frame };
        ask = record {
          number = c.args.number;
          shown = c.in_ok-shown.shown;
          new = record { 0 = at xs 0 };
          first = record { 0 = at xs 1 };
          second = record { 0 = at xs 2 };
        };
        number = refl;
        new = numbers_at xs 0;
        first = numbers_at xs 1;
        second = numbers_at xs 2;
        row = IfOk-at_ok _ c.unwrap-found.ensures e.does;
        entries = rw ok at e.log;
        below = subst (λ k. m.swapped b n (get_or cs 0 0) k b') (left 3 xs) (subst (λ k. m.swapped b n k rest b') (numbers_at xs 0) d.does);
        order = d.order;
        swapped = λ o. lower (d.done o);
      };
      refused = λ e. absurd (false≢true e);
    }
