-- Which block a flush moves from a bucket to its child.
use Rattle.std.specs.Prelude.{◌≡◌, ℕ, ◌^◌, ◌<◌, ◌≤◌, max, Bool, true, cond, ◌&&◌, List, [], ◌∷◌, map, length, is_some, Some, None, Option, MatchOption, ◌==◌, ◌≢◌, nat_eq, nat_le, nat_lt, slice_index_or, position}
use Rattle.tree.specs.declared.place.Place.{Place}
use Rattle.tree.specs.Paths.{is_leaf, path, shared_buckets}
use Rattle.tree.specs.Places.{emptied, empty_place, filled, has_block, lowest_empty}

-- in a flush along leaf m, the bucket at layer d lies on the own path of the place's block
abbrev pub may_move : ℕ → ℕ → ℕ → Place → Bool
may_move D m d p = has_block p && (nat_lt p.leaf (2 ^ D) && path D p.leaf d == path D m d)

-- how many buckets the block's path shares with the flushed path
abbrev pub closeness : ℕ → ℕ → Place → ℕ
closeness D m p = shared_buckets D p.leaf m

-- The block of place i moves to the child at layer d: it may move, no block that may move is closer to the flushed path,
-- and none in a lower place is as close. None moves if the child has no empty place or no block may move.
abbrev pub Moves : ℕ → ℕ → ℕ → List Place → List Place → Option ℕ → Type 0
Moves D m d parent child r =
    MatchOption r ((i : ℕ) → i < length parent → is_some (lowest_empty child) ≡ true → may_move D m d (slice_index_or parent i empty_place) ≢ true)
    (λ i.
    (i < length parent) × (is_some (lowest_empty child) ≡ true) × (may_move D m d (slice_index_or parent i empty_place) ≡ true)
    × ((j : ℕ) → j < length parent → may_move D m d (slice_index_or parent j empty_place) ≡ true
    → closeness D m (slice_index_or parent j empty_place) ≤ closeness D m (slice_index_or parent i empty_place))
    × ((j : ℕ) → j < i → may_move D m d (slice_index_or parent j empty_place) ≡ true
    → closeness D m (slice_index_or parent j empty_place) < closeness D m (slice_index_or parent i empty_place)))

-- 0 for a place whose block may not move, else its closeness, which is at least 1
abbrev pub score : ℕ → ℕ → ℕ → Place → ℕ
score D m d p = cond (may_move D m d p) (closeness D m p) 0

abbrev pub highest : List ℕ → ℕ
highest [] = 0
highest (s ∷ ss) = max s (highest ss)

-- the lowest place that has the highest score, unless that is 0
abbrev pub best : List ℕ → Option ℕ
best ss = cond (highest ss == 0) None (position (λ s. nat_eq s (highest ss)) ss)

-- the place whose block moves
abbrev pub chosen : ℕ → ℕ → ℕ → List Place → List Place → Option ℕ
chosen D m d parent child = cond (is_some (lowest_empty child)) (best (map (score D m d) parent)) None

-- the place whose block moves, if there are such a depth, leaf and layer
abbrev pub moving : ℕ → ℕ → ℕ → List Place → List Place → Option ℕ
moving D m d parent child = cond (is_leaf D m && nat_le d D) (chosen D m d parent child) None

-- the lowest empty place of the child takes the words of place i of the parent
abbrev pub moved_in : List Place → List Place → Option ℕ → List Place
moved_in parent child None = child
moved_in parent child (Some i) = filled child (slice_index_or parent i empty_place) (lowest_empty child)

-- the two buckets after the move of at most one block
abbrev pub moved_parent : ℕ → ℕ → ℕ → List Place → List Place → List Place
moved_parent D m d parent child = emptied parent (moving D m d parent child)

abbrev pub moved_child : ℕ → ℕ → ℕ → List Place → List Place → List Place
moved_child D m d parent child = moved_in parent child (moving D m d parent child)
