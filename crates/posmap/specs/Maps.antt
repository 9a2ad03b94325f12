-- What a position map means, and how its calls are refused: on the meaning alone.
use Rattle.std.specs.Prelude.{◌≡◌, ℕ, zero, suc, ◌+◌, ◌-◌, ◌*◌, ◌/◌, ◌^◌, ◌<◌, ◌≤◌, min, Bool, true, false, ◌&&◌, List, [], ◌∷◌, ◌++◌, length, drop, replicate, IfSome, Some, None, Ok, Err, Option, Result, ◌==◌, nat_le, nat_lt, slice_index, slice_index_or, slice_set}
use Rattle.card.specs.declared.fault.CardFault.{Ghosts as CardMeaning}
use Rattle.tree.specs.declared.numbers.Leaf.{Leaf}
use Rattle.tree.specs.Blocks.{capacity}
use Rattle.tree.specs.Entries.{drain_entries, drain_moves, request_entries, request_moves}

-- a row of a map: its depth, its own leaves, one for each number that it can be asked, and its store's span and log
pub record MapRow : Type 0 where
  pub depth : ℕ
  pub own : List ℕ
  pub span : ℕ
  pub log : List ℕ

-- a place on the card of refusals: its number and its row
pub record Card : Type 0 where
  pub number : ℕ
  pub row : ℕ

-- how many leaves a page has, and so by what a number is divided from row to row
abbrev pub leaves_per_page : ℕ
leaves_per_page = 8

-- how many coins a row takes of a request, and of a drain
abbrev pub coins_per_request : ℕ
coins_per_request = 3

abbrev pub coins_per_drain : ℕ
coins_per_drain = 1

-- the widest leaf that a map may be given
abbrev pub widest_leaf : ℕ
widest_leaf = 4095

abbrev pub leaf_numbers : List Leaf → List ℕ
leaf_numbers [] = []
leaf_numbers (m ∷ ms) = m.0 ∷ leaf_numbers ms

-- the first of two refusals that is one
abbrev pub or_else : {X : Type 0} → Option X → Option X → Option X
or_else None o = o
or_else (Some x) o = Some x

-- a refusal where a test fails
abbrev pub unless : Bool → Card → Option Card
unless true c = None
unless false c = Some c

-- on the card a row's number stops at 255
abbrev pub stopped : ℕ → ℕ
stopped r = min 255 r

-- a refusal by the row that is named, if one is
abbrev pub naming : ℕ → Option ℕ → Option Card
naming n None = None
naming n (Some r) = Some (record { number = n; row = stopped r })

-- all of so many coins are below 2 ^ D
abbrev pub coins_below : ℕ → ℕ → List ℕ → Bool
coins_below D zero coins = true
coins_below D (suc k) [] = true
coins_below D (suc k) (m ∷ ms) = nat_lt m (2 ^ D) && coins_below D k ms

-- 6: the lowest row, from r on, that has a coin of its share not below 2 ^ D; a row's share is so many coins
abbrev pub leaf_refusal : ℕ → ℕ → List MapRow → List ℕ → Option Card
leaf_refusal share r [] coins = None
leaf_refusal share r (row ∷ rows) coins =
    or_else (unless (coins_below row.depth share coins) (record { number = 6; row = stopped r }))
    (leaf_refusal share (suc r) rows (drop share coins))

-- 7: the lowest row, from r on, whose log has fewer free entries than the call makes there
abbrev pub log_refusal : (ℕ → ℕ) → ℕ → List MapRow → Option Card
log_refusal moves r [] = None
log_refusal moves r (row ∷ rows) =
    or_else (unless (nat_le (length row.log + moves row.depth) row.span) (record { number = 7; row = stopped r }))
    (log_refusal moves (suc r) rows)

-- how a swap is refused, if it is: the smallest number, with its row
abbrev pub swap_refusal : List ℕ → List MapRow → Option ℕ → Option ℕ → ℕ → ℕ → List ℕ → Option Card
swap_refusal leaves rows unfit full i new coins =
    or_else (naming 1 unfit)
    (or_else (unless (nat_lt i (length leaves)) (record { number = 2; row = 0 }))
    (or_else (unless (length coins == coins_per_request * length rows) (record { number = 5; row = 0 }))
    (or_else (unless (nat_le new widest_leaf) (record { number = 6; row = 0 }))
    (or_else (leaf_refusal coins_per_request 0 rows coins)
    (or_else (log_refusal request_moves 0 rows) (naming 8 full))))))

-- how a drain is refused, if it is
abbrev pub drain_refusal : List MapRow → Option ℕ → List ℕ → Option Card
drain_refusal rows unfit coins =
    or_else (naming 1 unfit)
    (or_else (unless (length coins == coins_per_drain * length rows) (record { number = 5; row = 0 }))
    (or_else (leaf_refusal coins_per_drain 0 rows coins) (log_refusal drain_moves 0 rows)))

-- the card's place of an answer: none where the call is accepted
abbrev pub card_of : {F T : Type 0} → CardMeaning F → Result T F → Option Card
card_of card (Ok x) = None
card_of card (Err f) = Some (record { number = card.number_of f; row = card.row_of f })

-- what a request for number j does to a row's own leaves and log
abbrev pub row_swapped : MapRow → ℕ → List ℕ → MapRow
row_swapped row j coins =
    record {
      depth = row.depth;
      own = slice_set row.own j (slice_index coins 0);
      span = row.span;
      log = row.log ++ request_entries row.depth (slice_index row.own j) (slice_index coins 1 ∷ slice_index coins 2 ∷ []);
    }

-- every row does a request for the number divided once more, with its share of the coins
abbrev pub rows_swapped : List MapRow → ℕ → List ℕ → List MapRow
rows_swapped [] i coins = []
rows_swapped (row ∷ rows) i coins =
    row_swapped row (i / leaves_per_page) coins ∷ rows_swapped rows (i / leaves_per_page) (drop coins_per_request coins)

-- every row does one dequeue
abbrev pub rows_drained : List MapRow → List ℕ → List MapRow
rows_drained [] coins = []
rows_drained (row ∷ rows) coins =
    record {
      depth = row.depth;
      own = row.own;
      span = row.span;
      log = row.log ++ drain_entries row.depth (slice_index coins 0);
    }
    ∷ rows_drained rows (drop coins_per_drain coins)

-- every log emptied, and besides every own leaf 0
abbrev pub rows_torn : List MapRow → List MapRow
rows_torn [] = []
rows_torn (row ∷ rows) = record { depth = row.depth; own = row.own; span = row.span; log = [] } ∷ rows_torn rows

abbrev pub rows_zeroed : List MapRow → List MapRow
rows_zeroed [] = []
rows_zeroed (row ∷ rows) =
    record { depth = row.depth; own = replicate (length row.own) 0; span = row.span; log = [] } ∷ rows_zeroed rows

-- what never changes of a row
abbrev pub fixed_of : List MapRow → List (ℕ × ℕ × ℕ)
fixed_of [] = []
fixed_of (row ∷ rows) = (row.depth, length row.own, row.span) ∷ fixed_of rows

-- a named row is one that there is
abbrev pub Names : Option ℕ → List MapRow → Type 0
Names o rows = IfSome o (λ r. r < length rows)

-- from row to row a number is divided, rounded up, so a row has an own leaf for each number that it can be asked
abbrev pub divided : ℕ → ℕ
divided n = (n + (leaves_per_page - 1)) / leaves_per_page

abbrev pub OwnLeaves : ℕ → List MapRow → Type 0
OwnLeaves n [] = Unit {0}
OwnLeaves n (row ∷ rows) = (length row.own ≡ divided n) × OwnLeaves (divided n) rows

-- a missing row has depth 0, no leaf, span 0 and an empty log
abbrev pub no_row : MapRow
no_row = record { depth = 0; own = []; span = 0; log = [] }

abbrev pub row_at : List MapRow → ℕ → MapRow
row_at rows r = slice_index_or rows r no_row

-- 10: a log without such an entry, with the row asked
abbrev pub entry_refusal : List MapRow → ℕ → ℕ → Option Card
entry_refusal rows r k = unless (nat_lt k (length (row_at rows r).log)) (record { number = 10; row = r })

-- what holds of every map
pub record MapFacts (ordered : Type 0) (leaves : List ℕ) (rows : List MapRow) (unfit full : Option ℕ) : Type 0 where
  -- unfit and full name rows that exist
  pub unfit_named : Names unfit rows
  pub full_named : Names full rows
  -- with nothing unfit, each row has an own leaf for each number that it can be asked
  pub own_leaves : unfit ≡ None → OwnLeaves (length leaves) rows
  -- of one in order: a full row has more than 31 own leaves
  pub small_never_full : ordered → IfSome full (λ r. capacity ≤ length (row_at rows r).own)

-- what no call changes: the length, the depth, count of own leaves and span of each row, and the unfit row
pub record SameFrame (leaves leaves' : List ℕ) (rows rows' : List MapRow) (unfit unfit' : Option ℕ) : Type 0 where
  pub length_stays : length leaves' ≡ length leaves
  pub rows_stay : fixed_of rows' ≡ fixed_of rows
  pub unfit_stays : unfit' ≡ unfit

-- what a refused call leaves: everything
pub record SameMeaning (leaves leaves' : List ℕ) (rows rows' : List MapRow) (full full' : Option ℕ) : Type 0 where
  pub leaves_stay : leaves' ≡ leaves
  pub rows_stay : rows' ≡ rows
  pub full_stays : full' ≡ full

-- what an accepted swap answers and does, of a map in order
pub record SwapDone (leaves leaves' : List ℕ) (rows rows' : List MapRow) (i new : ℕ) (coins : List ℕ) (answer : ℕ) : Type 0 where
  pub shown : answer ≡ slice_index leaves i
  pub sets_leaf : leaves' ≡ slice_set leaves i new
  pub rows_asked : rows' ≡ rows_swapped rows i coins

-- what an accepted drain does, of a map in order
pub record DrainDone (leaves leaves' : List ℕ) (rows rows' : List MapRow) (coins : List ℕ) : Type 0 where
  pub leaves_stay : leaves' ≡ leaves
  pub drains_rows : rows' ≡ rows_drained rows coins
