use Rattle.std.proofs.Common.{◌≡◌, map, length, arith, sym, ◌∙◌, rules, tests}
use Rattle.std.proofs.lemmas.Bool.{false≢true}
use Rattle.std.proofs.lemmas.List.{length-map}
use Rattle.std.proofs.lemmas.Iterator.{YieldsList-from_slice, YieldsList-from_zip, same_from_all}
use Rattle.history.specs.Histories.{sort}
use Rattle.secrecy.specs.Lists.{call_in, calls_in}
use Rattle.secrecy.proofs.LikeLists.{YieldsList-through}
use Rattle.secrecy.proofs.calls.are_alike.Goals as goal

pub returns-then-first-second : goal.returns-then-first-second
returns-then-first-second g c =
    let xs = c.args.first.now in
    let ys = c.args.second.now in
    let one = map sort (calls_in xs) in
    let other = map sort (calls_in ys) in
    let long : length one ≡ length other = omega (arith, c.if-first-second.true, length-map (calls_in xs) sort, length-map xs call_in, length-map (calls_in ys) sort, length-map ys call_in) in
    let d =
    same_from_all c.all.new.self _ _ one other c.all.ensures.ran
    (YieldsList-from_zip (YieldsList-through sort (YieldsList-through call_in (YieldsList-from_slice xs cc)))
    (YieldsList-through sort (YieldsList-through call_in (YieldsList-from_slice ys cc)))) long (λ x q k. search (rules, tests))
    (λ x q k. search (rules, tests)) in
    record { yes = d.0; no = λ e p. false≢true (sym e ∙ d.1 p) }
