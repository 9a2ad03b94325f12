-- A row in order, and what its steps then keep: its numbers find the words that they were given.
use Rattle.std.specs.Prelude.{◌≡◌, ℕ, ◌^◌, ◌<◌, Bool, true, ◌||◌, List, [], length, replicate, IfSome, None, Option, ◌≢◌, slice_index, slice_set}
use Rattle.std.specs.Option.{option_map}
use Rattle.std.specs.List.{AllByRecursion}
use Rattle.tree.specs.declared.block.Block.{Block}
use Rattle.tree.specs.declared.place.Place.{Place}
use Rattle.tree.specs.Blocks.{apart, block_of, capacity}
use Rattle.tree.specs.Places.{empty_place, has_block, is_empty}
use Rattle.steps.specs.Laws.{Placed, row_blocks}
use Rattle.steps.specs.Steps.{Row, dequeued, fetched, found, second_half}

-- a place is empty or has a block
abbrev pub empty_or_block : Place → Bool
empty_or_block p = is_empty p || has_block p

-- A row of depth D with a leaf for each of its numbers is in order.
pub record InOrder (D : ℕ) (leaves : List ℕ) (row : Row) : Type 0 where
  -- every place is empty or a block
  pub whole : AllByRecursion (λ ps. AllByRecursion (λ p. empty_or_block p ≡ true) ps) row.buckets
  -- no number twice in queue and buckets together
  pub distinct : apart (row_blocks row) ≡ true
  -- every block in bucket v has v on its path
  pub placed : Placed D row
  -- every number is below the row's count
  pub counted : AllByRecursion (λ b. b.number.0 < length leaves) (row_blocks row)
  -- every block's leaf is the one that the list has for its number
  pub known : AllByRecursion (λ b. b.leaf.0 ≡ slice_index leaves b.number.0) (row_blocks row)
  -- and each leaf is one of the tree
  pub leaves_fit : AllByRecursion (λ m. m < 2 ^ D) leaves

-- what a row holds under number i: eight words, or none
abbrev pub content : ℕ → Row → Option (List ℕ)
content i row = option_map (λ b. b.words) (block_of i (row_blocks row))

-- all other numbers hold what they held
abbrev pub SameOthers : ℕ → Row → Row → Type 0
SameOthers i before after = (j : ℕ) → (j ≢ i) → content j after ≡ content j before

-- cleared buckets and an empty queue
abbrev pub cleared_row : ℕ → Row
cleared_row count = record { buckets = replicate count (replicate 4 empty_place); queue = [] }

-- what the first half of a request does: number i is given a new leaf and fetched along its old one
pub record FirstHalf (D : ℕ) (leaves : List ℕ) (i new : ℕ) (row : Row) : Type 0 where
  pub ordered : InOrder D (slice_set leaves i new) (fetched D i (slice_index leaves i) row)
  pub gone : content i (fetched D i (slice_index leaves i) row) ≡ None
  pub same : SameOthers i row (fetched D i (slice_index leaves i) row)
  pub answer : found D i (slice_index leaves i) row ≡ block_of i (row_blocks row)

-- what the second half does: a block of number i arrives, or none, and blocks sink
pub record SecondHalf (D : ℕ) (leaves : List ℕ) (i : ℕ) (arrives : Option Block) (flushes : List ℕ) (row : Row) : Type 0 where
  pub ordered : InOrder D leaves (second_half D arrives flushes row)
  pub holds : content i (second_half D arrives flushes row) ≡ option_map (λ b. b.words) arrives
  pub same : SameOthers i row (second_half D arrives flushes row)

-- what may arrive: a block of number i with the leaf that the list has for it
abbrev pub MayArrive : List ℕ → ℕ → Option Block → Type 0
MayArrive leaves i arrives = IfSome arrives (λ b. (b.number.0 ≡ i) × (b.leaf.0 ≡ slice_index leaves i))

-- The laws of a row in order.
pub record OrderKept : Type 0 where
  -- a cleared store with an empty queue is in order, with n zeros for leaves, and holds nothing
  pub cleared : (D n count : ℕ) → InOrder D (replicate n 0) (cleared_row count)
  pub cleared_holds : (i count : ℕ) → content i (cleared_row count) ≡ None
  pub of_first_half : (D : ℕ) (leaves : List ℕ) (i new : ℕ) (row : Row) → InOrder D leaves row → i < length leaves → new < 2 ^ D
      → FirstHalf D leaves i new row
  pub of_second_half : (D : ℕ) (leaves : List ℕ) (i : ℕ) (arrives : Option Block) (flushes : List ℕ) (row : Row)
      → InOrder D leaves row → i < length leaves → content i row ≡ None → length row.queue < capacity
      → MayArrive leaves i arrives → SecondHalf D leaves i arrives flushes row
  -- a dequeue alone changes nothing that is held
  pub drain : (D m : ℕ) (leaves : List ℕ) (row : Row) → InOrder D leaves row → InOrder D leaves (dequeued D m row)
  pub drain_holds : (D m : ℕ) (leaves : List ℕ) (row : Row) → InOrder D leaves row → (j : ℕ)
      → content j (dequeued D m row) ≡ content j row
  -- with at most 31 numbers the queue never holds 32
  pub never_full : (D : ℕ) (leaves : List ℕ) (row : Row) → InOrder D leaves row → length leaves < capacity
      → length row.queue < capacity
