use Rattle.tree.proofs.EntryLaws.{in_fetch, in_first, in_second}
use Rattle.tree.proofs.prescribed.request_entry.Goals as goal

pub returns-then-k-fetched : goal.returns-then-k-fetched
returns-then-k-fetched c =
    in_fetch _ _ _ _ c.in_ok-shown.shown c.in_ok-first.first c.in_ok-second.second c.in_ok-shown.ensures
    c.in_ok-first.ensures c.in_ok-second.ensures
    c.args.k _ c.if-k-fetched.true c.fetch_entry.ensures

pub returns-then-k-fetched-2 : goal.returns-then-k-fetched-2
returns-then-k-fetched-2 c =
    in_first _ _ _ _ c.in_ok-shown.shown c.in_ok-first.first c.in_ok-second.second c.in_ok-shown.ensures
    c.in_ok-first.ensures c.in_ok-second.ensures
    c.args.k _ c.if-k-fetched.false c.if-k-fetched-2.true c.dequeue_entry.ensures

pub returns-else-k-fetched-2 : goal.returns-else-k-fetched-2
returns-else-k-fetched-2 c =
    in_second _ _ _ _ c.in_ok-shown.shown c.in_ok-first.first c.in_ok-second.second c.in_ok-shown.ensures
    c.in_ok-first.ensures c.in_ok-second.ensures
    c.args.k _ c.if-k-fetched.false c.if-k-fetched-2.false c.dequeue_entry-else-k-fetched-2.ensures
