use Rattle.std.proofs.Common.{map}
use Rattle.tree.proofs.ChoiceLaws.{Best, scored}
use Rattle.tree.proofs.bucket.Bucket.chosen.Given as goal

-- the best of the scores so far
abbrev pub invariant-loop-i : goal.invariant-loop-i
invariant-loop-i l = Best (map (scored l.depth l.leaf.0 l.layer) l.self.places) l.i l.top l.best
