use Rattle.std.proofs.Common.{◌≡◌, ◌+◌, drop}
use Rattle.tree.specs.Entries.{total, moves_of, all_depths}
use Rattle.tree.proofs.entries.region_moves.Given as goal

-- the sum so far and what is left make the whole
abbrev pub invariant-loop-depth : goal.invariant-loop-depth
invariant-loop-depth l =
    (l.sum + total (moves_of l.work) (drop l.depth-index l.depths) ≡ total (moves_of l.work) l.depths)
    × (all_depths (drop l.depth-index l.depths) ≡ all_depths l.depths)
