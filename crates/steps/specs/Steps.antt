-- The steps of a row of depth D, on its buckets and its queue.
use Rattle.std.specs.Prelude.{ℕ, zero, suc, ◌-◌, List, [], ◌∷◌, Some, None, Option, slice_index_or, slice_set}
use Rattle.tree.specs.declared.block.Block.{Block}
use Rattle.tree.specs.declared.place.Place.{Place}
use Rattle.tree.specs.Blocks.{others, block_of, arrived}
use Rattle.tree.specs.Choice.{chosen}
use Rattle.tree.specs.Paths.{path}
use Rattle.tree.specs.Places.{without, taken, entry_place, place_for, empty_place, filled, lowest_empty}

-- the buckets of a row, each by its places: bucket v stands at index v - 1
abbrev pub Buckets : Type 0
Buckets = List (List Place)

-- a row: its buckets, and the blocks of its queue, first to last
pub record Row : Type 0 where
  pub buckets : Buckets
  pub queue : List Block

-- the places of bucket v
abbrev pub bucket : Buckets → ℕ → List Place
bucket bs v = slice_index_or bs (v - 1) []

-- the buckets with other places for bucket v
abbrev pub with_bucket : Buckets → ℕ → List Place → Buckets
with_bucket bs v ps = slice_set bs (v - 1) ps

-- the first of two answers that is one
abbrev pub or_else : {X : Type 0} → Option X → Option X → Option X
or_else None o = o
or_else (Some x) o = Some x

-- FETCH of number n along the path of leaf m: each of the first k buckets of the path loses its block of that number
abbrev pub cleared_to : ℕ → ℕ → ℕ → Buckets → ℕ → Buckets
cleared_to D n m bs zero = bs
cleared_to D n m bs (suc k) =
    with_bucket (cleared_to D n m bs k) (path D m k) (without n (bucket (cleared_to D n m bs k) (path D m k)))

-- the first block of number n in the first k buckets of the path, root first
abbrev pub found_to : ℕ → ℕ → ℕ → Buckets → ℕ → Option Block
found_to D n m bs zero = None
found_to D n m bs (suc k) = or_else (found_to D n m bs k) (taken n (bucket bs (path D m k)))

-- the row after a fetch: the whole path has lost its blocks of that number, and so has the queue
abbrev pub fetched : ℕ → ℕ → ℕ → Row → Row
fetched D n m row = record { buckets = cleared_to D n m row.buckets (suc D); queue = others n row.queue }

-- what a fetch answers: the block on the path, or else the one in the queue
abbrev pub found : ℕ → ℕ → ℕ → Row → Option Block
found D n m row = or_else (found_to D n m row.buckets (suc D)) (block_of n row.queue)

-- ARRIVAL of a block at the queue's end, or of none
abbrev pub arriving : Option Block → Row → Row
arriving None row = row
arriving (Some b) row = record { buckets = row.buckets; queue = arrived b row.queue }

-- PUT-BACK: the queue's first block goes to the root's lowest empty place; where there is none it stays first
abbrev pub put_back_at : Buckets → Block → List Block → Option ℕ → Row
put_back_at bs b rest None = record { buckets = bs; queue = b ∷ rest }
put_back_at bs b rest (Some i) = record { buckets = with_bucket bs 1 (slice_set (bucket bs 1) i (place_for b)); queue = rest }

abbrev pub put_back_from : Buckets → List Block → Row
put_back_from bs [] = record { buckets = bs; queue = [] }
put_back_from bs (b ∷ rest) = put_back_at bs b rest (entry_place b (bucket bs 1))

abbrev pub put_back : Row → Row
put_back row = put_back_from row.buckets row.queue

-- FLUSH: the block of place i, where there is one, goes from bucket u to the lowest empty place of bucket v
abbrev pub moved_by : Buckets → ℕ → ℕ → Option ℕ → Buckets
moved_by bs u v None = bs
moved_by bs u v (Some i) =
    with_bucket (with_bucket bs u (slice_set (bucket bs u) i empty_place)) v
    (filled (bucket bs v) (slice_index_or (bucket bs u) i empty_place) (lowest_empty (bucket bs v)))

-- at most one block moves from layer k of the path of leaf m to the next
abbrev pub moved : ℕ → ℕ → Buckets → ℕ → Buckets
moved D m bs k =
    moved_by bs (path D m k) (path D m (suc k))
    (chosen D m (suc k) (bucket bs (path D m k)) (bucket bs (path D m (suc k))))

-- from layer to layer, root first, down to layer k: a moved block may move on
abbrev pub flushed_to : ℕ → ℕ → Buckets → ℕ → Buckets
flushed_to D m bs zero = bs
flushed_to D m bs (suc k) = moved D m (flushed_to D m bs k) k

abbrev pub flushed : ℕ → ℕ → Row → Row
flushed D m row = record { buckets = flushed_to D m row.buckets D; queue = row.queue }

-- DEQUEUE: one put-back and one flush
abbrev pub dequeued : ℕ → ℕ → Row → Row
dequeued D m row = flushed D m (put_back row)

-- one dequeue after the other, for each of the leaves
abbrev pub dequeued_all : ℕ → List ℕ → Row → Row
dequeued_all D [] row = row
dequeued_all D (m ∷ ms) row = dequeued_all D ms (dequeued D m row)

-- A REQUEST has two halves: a fetch along the shown leaf, which answers a block or none; then a block arrives, or none, and
-- there is a dequeue for each flush leaf
abbrev pub first_half : ℕ → ℕ → ℕ → Row → Row
first_half D n shown row = fetched D n shown row

abbrev pub second_half : ℕ → Option Block → List ℕ → Row → Row
second_half D arrives flushes row = dequeued_all D flushes (arriving arrives row)
