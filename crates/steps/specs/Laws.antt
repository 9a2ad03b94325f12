-- What holds of the steps of a row, whatever it holds.
use Rattle.std.specs.Prelude.{◌≡◌, ℕ, zero, suc, ◌^◌, ◌<◌, ◌≤◌, true, List, [], ◌++◌, length, IfSome, Option, ◌≢◌}
use mathlib.Core.List.{Permᴰ}
use Rattle.std.specs.List.{flat_map, AllByRecursion}
use Rattle.tree.specs.declared.block.Block.{Block}
use Rattle.tree.specs.Blocks.{others, block_of, apart}
use Rattle.tree.specs.Paths.{path}
use Rattle.tree.specs.Places.{blocks_in}
use Rattle.steps.specs.Steps.{Buckets, Row, bucket, fetched, found, arriving, put_back, flushed, dequeued, dequeued_all, second_half}

-- all blocks of a row: the queue's, then those of each bucket
abbrev pub row_blocks : Row → List Block
row_blocks row = row.queue ++ flat_map blocks_in row.buckets

-- the blocks in the first k buckets of the path of leaf m, root first
abbrev pub path_blocks : ℕ → ℕ → Buckets → ℕ → List Block
path_blocks D m bs zero = []
path_blocks D m bs (suc k) = path_blocks D m bs k ++ blocks_in (bucket bs (path D m k))

-- every bucket has four places
abbrev pub FourEach : Buckets → Type 0
FourEach bs = AllByRecursion (λ ps. length ps ≡ 4) bs

-- no bucket has a number twice
abbrev pub ApartEach : Buckets → Type 0
ApartEach bs = AllByRecursion (λ ps. apart (blocks_in ps) ≡ true) bs

-- bucket v lies on the path of leaf m
abbrev pub OnPath : ℕ → ℕ → ℕ → Type 0
OnPath D m v = (m < 2 ^ D) × ((d : ℕ) × (d ≤ D) × (path D m d ≡ v))

-- every block has its bucket on its own path, and every block of the queue has a path
pub record Placed (D : ℕ) (row : Row) : Type 0 where
  pub tree : (v : ℕ) → 1 ≤ v → AllByRecursion (λ b. OnPath D b.leaf.0 v) (blocks_in (bucket row.buckets v))
  pub waiting : AllByRecursion (λ b. b.leaf.0 < 2 ^ D) row.queue

-- A step keeps the number of buckets, and four places each.
pub record KeepsShape (before after : Row) : Type 0 where
  pub count : length after.buckets ≡ length before.buckets
  pub four : FourEach before.buckets → FourEach after.buckets

pub record StepsKeepShape : Type 0 where
  pub fetch : (D n m : ℕ) (row : Row) → KeepsShape row (fetched D n m row)
  pub arrive : (b : Option Block) (row : Row) → KeepsShape row (arriving b row)
  pub of_put_back : (row : Row) → KeepsShape row (put_back row)
  pub flush : (D m : ℕ) (row : Row) → KeepsShape row (flushed D m row)
  pub dequeue : (D m : ℕ) (row : Row) → KeepsShape row (dequeued D m row)
  pub of_second_half : (D : ℕ) (b : Option Block) (ms : List ℕ) (row : Row) → KeepsShape row (second_half D b ms row)

-- A fetch takes out exactly the blocks of that number on the path and in the queue, and answers the first of them.
pub record FetchTakes (D n m : ℕ) (row : Row) : Type 0 where
  pub path_loses : ApartEach row.buckets → (d : ℕ) → d ≤ D
      → blocks_in (bucket (fetched D n m row).buckets (path D m d)) ≡ others n (blocks_in (bucket row.buckets (path D m d)))
  pub queue_loses : (fetched D n m row).queue ≡ others n row.queue
  pub answers : found D n m row ≡ block_of n (path_blocks D m row.buckets (suc D) ++ row.queue)

abbrev pub FetchTakesExactly : Type 0
FetchTakesExactly = (D n m : ℕ) (row : Row) → FetchTakes D n m row

-- Put-back and flush lose nothing and double nothing: the row's blocks are a rearrangement.
pub record StepsRearrange : Type 0 where
  pub of_put_back : (row : Row) → Permᴰ (row_blocks row) (row_blocks (put_back row))
  pub flush : (D m : ℕ) (row : Row) → Permᴰ (row_blocks row) (row_blocks (flushed D m row))
  pub dequeue : (D m : ℕ) (row : Row) → Permᴰ (row_blocks row) (row_blocks (dequeued D m row))
  pub dequeues : (D : ℕ) (ms : List ℕ) (row : Row) → Permᴰ (row_blocks row) (row_blocks (dequeued_all D ms row))

-- After every step each block has its bucket on its own path, if that was so before.
pub record StepsKeepPlaced : Type 0 where
  pub fetch : (D n m : ℕ) (row : Row) → Placed D row → Placed D (fetched D n m row)
  pub arrive : (D : ℕ) (b : Option Block) (row : Row) → IfSome b (λ x. x.leaf.0 < 2 ^ D) → Placed D row
      → Placed D (arriving b row)
  pub of_put_back : (D : ℕ) (row : Row) → Placed D row → Placed D (put_back row)
  pub flush : (D m : ℕ) (row : Row) → Placed D row → Placed D (flushed D m row)
  pub dequeue : (D m : ℕ) (row : Row) → Placed D row → Placed D (dequeued D m row)
  pub of_second_half : (D : ℕ) (b : Option Block) (ms : List ℕ) (row : Row) → IfSome b (λ x. x.leaf.0 < 2 ^ D)
      → Placed D row → Placed D (second_half D b ms row)

-- Off the path nothing changes.
abbrev pub OffPath : ℕ → ℕ → ℕ → Type 0
OffPath D m v = (1 ≤ v) × ((d : ℕ) → d ≤ D → path D m d ≢ v)

pub record StepsLeaveTheRest : Type 0 where
  pub fetch : (D n m : ℕ) (row : Row) (v : ℕ) → OffPath D m v → bucket (fetched D n m row).buckets v ≡ bucket row.buckets v
  pub of_put_back : (row : Row) (v : ℕ) → 2 ≤ v → bucket (put_back row).buckets v ≡ bucket row.buckets v
  pub flush : (D m : ℕ) (row : Row) (v : ℕ) → OffPath D m v → bucket (flushed D m row).buckets v ≡ bucket row.buckets v
  pub dequeue : (D m : ℕ) (row : Row) (v : ℕ) → m < 2 ^ D → OffPath D m v
      → bucket (dequeued D m row).buckets v ≡ bucket row.buckets v
