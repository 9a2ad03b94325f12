use Rattle.std.proofs.Common.{◌∙◌, ap, arith}
use Rattle.store.specs.Layout.{overwritten}
use Rattle.store.proofs.Replays.{entry_made, entry_missed, start_fits}
use Rattle.store.proofs.tail.settle_entry.Goals as goal

pub copy_in-requires : goal.copy_in-requires
copy_in-requires c =
    let fits = start_fits c.args.base.now c.in-Some.n.0 c.in-Some-start_of.start c.in-Some-start_of.ensures in
    omega (arith, c.words_in.ensures.count)

pub returns-in-Some-start_of : goal.returns-in-Some-start_of
returns-in-Some-start_of c =
    let start = c.in-Some-start_of.start in
    let made = entry_made c.args.base.now c.args.entry.now 0 c.in-Some.n start c.copy_in.new.words c.in-Some.ensures
    c.in-Some-start_of.ensures (omega arith)
    (c.copy_in.ensures ∙ ap (overwritten c.args.base.now start) c.words_in.ensures.value) in
    record { holds = made.0; past = made.1 }

pub returns-in_default-start_of-clause-holds : goal.returns-in_default-start_of-clause-holds
returns-in_default-start_of-clause-holds c =
    entry_missed c.args.base.now c.args.entry.now 0 c.in-Some.n c.in-Some.ensures c.in_default-start_of.ensures
