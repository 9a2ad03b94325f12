use Rattle.std.proofs.Common.{◌≡◌}
use Rattle.store.specs.Layout.{KeepsPast, buckets_in}
use Rattle.store.specs.Tails.{replayed}
use Rattle.store.proofs.tail.settle.Given as goal

-- the entries so far are made
abbrev pub invariant-loop-entry : goal.invariant-loop-entry
invariant-loop-entry l =
    (buckets_in l.base ≡ replayed l.entry-index l.tail.words.items (buckets_in l.initial.base))
    × KeepsPast l.initial.base l.base
