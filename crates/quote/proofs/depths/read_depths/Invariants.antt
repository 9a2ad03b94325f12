use Rattle.std.proofs.Common.{◌≡◌, ◌≤◌, true, vec_items, vec_len}
use Rattle.quote.specs.declared.depths.TheConstants.{MOST_ROWS}
use Rattle.tree.specs.Entries.{all_depths}
use Rattle.quote.proofs.depths.read_depths.Given as goal

-- at most so many depths so far, each of them one
abbrev pub invariant-loop-word : goal.invariant-loop-word
invariant-loop-word l = (vec_len l.rows ≤ MOST_ROWS) × (all_depths (vec_items l.rows) ≡ true)
