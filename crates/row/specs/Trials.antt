-- When a step of a row is refused, and by which fault.
use Rattle.std.specs.Prelude.{ℕ, ◌+◌, ◌-◌, ◌*◌, ◌%◌, ◌^◌, Bool, true, cond, ◌&&◌, List, length, Some, None, Option, nat_le, nat_lt}
use Rattle.tree.specs.declared.block.Block.{Block}
use Rattle.tree.specs.declared.numbers.Leaf.{Leaf}
use Rattle.tree.specs.Blocks.{capacity}
use Rattle.tree.specs.Entries.{drain_moves}
use Rattle.tree.specs.Paths.{is_depth, is_leaf}
use Rattle.tree.specs.Queues.{queued}
use Rattle.store.specs.declared.interface.BucketStore.{Ghosts as StoreMeaning}
use Rattle.row.specs.declared.fault.RowFault.{RowFault}
use Rattle.row.specs.declared.row.Row.{Row}
use Rattle.row.specs.declared.fault.RowFault.TheVariants.{Unfit, NoLeaf, LogFull, QueueFull}

-- how many buckets a tree of depth D has
abbrev pub tree_buckets : ℕ → ℕ
tree_buckets D = 2 ^ (D + 1) - 1

-- there is a tree of depth D, and so many buckets are enough for it
abbrev pub is_fit : ℕ → ℕ → Bool
is_fit D count = is_depth D && nat_le (tree_buckets D) count

-- the leaf, where the step has one, is one of the tree
abbrev pub leaf_fits : ℕ → Option Leaf → Bool
leaf_fits D None = true
leaf_fits D (Some m) = is_leaf D m.0

-- the queue has room, where something arrives at so many blocks
abbrev pub has_room : Option ℕ → Bool
has_room None = true
has_room (Some waiting) = nat_lt waiting capacity

-- The refusal with the smallest number, if there is one. First by numbers: the depth, the count of buckets, the leaf where
-- the step has one, the entries that it makes, the log's span, the entries used, and the length of the queue where
-- something arrives.
abbrev pub refusal_by : ℕ → ℕ → Option Leaf → ℕ → ℕ → ℕ → Option ℕ → Option RowFault
refusal_by D count leaf entries span used waiting =
    cond (is_fit D count)
    (cond (leaf_fits D leaf) (cond (nat_le (used + entries) span) (cond (has_room waiting) None (Some QueueFull)) (Some LogFull)) (Some NoLeaf))
    (Some Unfit)

-- the same by tests: whether the row is fit, the leaves are those of its tree, entries are free, and the queue has room
abbrev pub first_fault : Bool → Bool → Bool → Bool → Option RowFault
first_fault fit leaves free room =
    cond fit (cond leaves (cond free (cond room None (Some QueueFull)) (Some LogFull)) (Some NoLeaf)) (Some Unfit)

-- the same of a store's buckets, span and log
abbrev pub refusal : ℕ → List (List ℕ) → Option Leaf → ℕ → ℕ → List ℕ → Option ℕ → Option RowFault
refusal D buckets leaf entries span log waiting = refusal_by D (length buckets) leaf entries span (length log) waiting

-- and of a whole row
abbrev pub refusal_of : {S : Type 0} → StoreMeaning S → Row S → Option Leaf → ℕ → Option ℕ → Option RowFault
refusal_of store r leaf entries waiting =
    refusal r.depth (store.buckets r.store) leaf entries (store.span r.store) (store.log r.store) waiting

-- how many entries each step makes
abbrev pub fetch_moves : ℕ → ℕ
fetch_moves D = 2 * D + 2

abbrev pub put_back_moves : ℕ
put_back_moves = 2

abbrev pub flush_moves : ℕ → ℕ
flush_moves D = 2 * D + 2

abbrev pub dequeue_moves : ℕ → ℕ
dequeue_moves D = 2 * D + 4

-- how many entries the second half of a request makes
abbrev pub second_moves : ℕ → ℕ
second_moves D = 2 * drain_moves D

-- the leaf of what arrives, if something does
abbrev pub arrival_fits : ℕ → Option Block → Bool
arrival_fits D None = true
arrival_fits D (Some b) = is_leaf D b.leaf.0

-- where something arrives the queue must have room for it
abbrev pub waiting_for : Option Block → ℕ → Option ℕ
waiting_for None waiting = None
waiting_for (Some b) waiting = Some waiting

-- how the second half of a request is refused by the row, if it is
abbrev pub second_refusal : ℕ → ℕ → Option Block → Leaf → Leaf → ℕ → ℕ → ℕ → Option RowFault
second_refusal D count arrives first second span used waiting =
    first_fault (is_fit D count) (arrival_fits D arrives && (is_leaf D first.0 && is_leaf D second.0))
    (nat_le (used + second_moves D) span) (has_room (waiting_for arrives waiting))

-- and by a whole row
abbrev pub second_refusal_of : {S : Type 0} → StoreMeaning S → Row S → Option Block → Leaf → Leaf → Option RowFault
second_refusal_of store r arrives first second =
    second_refusal r.depth (length (store.buckets r.store)) arrives first second (store.span r.store) (length (store.log r.store))
    (length (queued r.queue))

-- a leaf that a map answers, reduced to the range of a row of depth D
abbrev pub in_range : ℕ → ℕ → ℕ
in_range D m = cond (is_depth D) (m % 2 ^ D) 0
