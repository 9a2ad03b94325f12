-- A flush over the three buckets of a path of depth 2.
use Rattle.std.specs.Prelude.{◌≡◌, ℕ, List}
use Rattle.bench.specs.declared.flushes.PathOfThree.{PathOfThree}
use Rattle.tree.specs.Choice.{moved_child, moved_parent}
use Rattle.tree.specs.declared.place.Place.{Place}

-- the middle bucket once the root's block has come down
abbrev pub between : ℕ → PathOfThree → List Place
between m p = moved_child 2 m 1 p.root.places p.middle.places

-- at most one block goes from the root to the middle, and then at most one from there to the last
pub record PathFlushed (m : ℕ) (before after : PathOfThree) : Type 0 where
  pub root : after.root.places ≡ moved_parent 2 m 1 before.root.places before.middle.places
  pub middle : after.middle.places ≡ moved_parent 2 m 2 (between m before) before.last.places
  pub last : after.last.places ≡ moved_child 2 m 2 (between m before) before.last.places
