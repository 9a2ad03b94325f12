-- The relabelled coins by turns counted from 0, oldest first, as they are computed: the next showing of a leaf is looked for.
use Rattle.std.specs.Prelude.{◌≡◌, ℕ, zero, suc, ◌-◌, Bool, false, cond, List, [], ◌∷◌, ◌++◌, map, reverse, length, is_some, Some, None, Option, ◌==◌, slice_index_or}
use Rattle.std.specs.Option.{option_map}
use Rattle.tree.specs.declared.numbers.RecordNumber.{RecordNumber}
use Rattle.history.specs.Histories.{new_leaf, number_in, row_number}
use Rattle.history.specs.Secrecy.{relabelled, with_leaves}

-- the records requested turn by turn, as numbers
abbrev pub requested_in : List (Option RecordNumber) → List (Option ℕ)
requested_in xs = map (option_map (λ n. n.0)) xs

-- both lists request at the same turns
abbrev pub SameTurns : List (Option ℕ) → List (Option ℕ) → Type 0
SameTurns A B = map is_some A ≡ map is_some B

-- a row is asked number n
abbrev pub is_asked : Option ℕ → ℕ → Bool
is_asked None n = false
is_asked (Some m) n = m == n

abbrev pub asks_at : ℕ → List (Option ℕ) → ℕ → ℕ → Bool
asks_at r A u n = is_asked (number_in r (slice_index_or A u None)) n

-- the leaf that the latest request for number n before turn u brought to row r, or 0
abbrev pub leaf_before : ℕ → List (Option ℕ) → List (List ℕ) → ℕ → ℕ → ℕ
leaf_before r A C n zero = 0
leaf_before r A C n (suc u) = cond (asks_at r A u n) (new_leaf r (slice_index_or C u [])) (leaf_before r A C n u)

-- the leaf that row r shows at turn u
abbrev pub shown_for : Option ℕ → ℕ → List (Option ℕ) → List (List ℕ) → ℕ → ℕ
shown_for None r A C u = 0
shown_for (Some a) r A C u = leaf_before r A C (row_number r a) u

abbrev pub shown_at : ℕ → List (Option ℕ) → List (List ℕ) → ℕ → ℕ
shown_at r A C u = shown_for (slice_index_or A u None) r A C u

-- what the second list must have brought for number n before turn u, of which so many turns are left: the leaf that the first list
-- shows at the next turn at which the second asks n, or else the first list's latest for n
abbrev pub next_leaf : ℕ → List (Option ℕ) → List (Option ℕ) → List (List ℕ) → ℕ → ℕ → ℕ → ℕ
next_leaf r A B C n u zero = leaf_before r A C n (length A)
next_leaf r A B C n u (suc left) = cond (asks_at r B u n) (shown_at r A C u) (next_leaf r A B C n (suc u) left)

-- the second list's coins of turn t
abbrev pub turn_for : Option ℕ → List (Option ℕ) → List (Option ℕ) → List (List ℕ) → ℕ → List ℕ
turn_for None A B C t = slice_index_or C t []
turn_for (Some b) A B C t = with_leaves (λ r. next_leaf r A B C (row_number r b) (suc t) (length A - suc t)) 0 (slice_index_or C t [])

-- and of the turns before t
abbrev pub turns_to : List (Option ℕ) → List (Option ℕ) → List (List ℕ) → ℕ → List (List ℕ)
turns_to A B C zero = []
turns_to A B C (suc t) = turns_to A B C t ++ turn_for (slice_index_or B t None) A B C t ∷ []

-- the relabelled coins, oldest first
abbrev pub relabelled_from : ℕ → List (Option ℕ) → List (Option ℕ) → List (List ℕ) → List (List ℕ)
relabelled_from N A B C = reverse (relabelled N (reverse A) (reverse B) (reverse C))
