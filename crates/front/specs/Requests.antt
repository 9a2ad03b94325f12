-- What a request and a drain do to a row and the map below it.
use Rattle.std.specs.Prelude.{◌≡◌, ℕ, List, [], ◌∷◌, ◌++◌, drop, Option, slice_index}
use Rattle.tree.specs.Entries.{drain_entries, request_entries}
use Rattle.steps.specs.Steps.{dequeued}
use Rattle.store.specs.declared.interface.BucketStore.{Ghosts as StoreMeaning}
use Rattle.row.specs.declared.requests.Ask.{Ask}
use Rattle.row.specs.Requests.{Requested, shown_leaf}
use Rattle.row.specs.Rows.{Frame, log_in, row_in}
use Rattle.posmap.specs.declared.interface.PositionMap.{Ghosts as MapMeaning}
use Rattle.posmap.specs.Maps.{DrainDone, SameFrame, SwapDone, coins_per_drain, coins_per_request}
use Rattle.front.specs.declared.front.Front.{Front}

module _ {S P F : Type 0} (store : StoreMeaning S) (map : MapMeaning P F) (before after : Front S P) where
  -- what no call changes of the map, and of the row
  pub record Kept : Type 0 where
    pub map_stays : SameFrame (map.leaves before.below) (map.leaves after.below) (map.rows before.below) (map.rows after.below)
        (map.unfit before.below) (map.unfit after.below)
    pub row_stays : Frame store before.row after.row

  -- A request of number n: the map swaps the leaf of n for the first coin, with the coins that the row leaves, and the row works
  -- along the leaf that the map showed. It finds these words, and what arrives is made of them by a change.
  pub record Asked (n : ℕ) (coins : List ℕ) (changed : Option (List ℕ) → Option (List ℕ)) (words : Option (List ℕ)) : Type 0 where
    pub kept : Kept
    pub ask : Ask
    pub number : ask.number.0 ≡ n
    pub new : ask.new.0 ≡ slice_index coins 0
    pub first : ask.first.0 ≡ slice_index coins 1
    pub second : ask.second.0 ≡ slice_index coins 2
    pub row : Requested store before.row after.row ask changed words
    pub entries : log_in store after.row
        ≡ log_in store before.row ++ request_entries before.row.depth (shown_leaf before.row ask) (ask.first.0 ∷ ask.second.0 ∷ [])
    pub below : map.swapped before.below n (slice_index coins 0) (drop coins_per_request coins) after.below
    pub order : map.ordered before.below → map.ordered after.below
    pub swapped : map.ordered before.below
        → SwapDone (map.leaves before.below) (map.leaves after.below) (map.rows before.below) (map.rows after.below) n (slice_index coins 0)
        (drop coins_per_request coins) ask.shown.0

  -- A drain: one dequeue in the row along the first coin, and a drain of the map with the others.
  pub record Drained (coins : List ℕ) : Type 0 where
    pub kept : Kept
    pub row : row_in store after.row ≡ dequeued before.row.depth (slice_index coins 0) (row_in store before.row)
    pub entries : log_in store after.row ≡ log_in store before.row ++ drain_entries before.row.depth (slice_index coins 0)
    pub below : map.drained before.below (drop coins_per_drain coins) after.below
    pub order : map.ordered before.below → map.ordered after.below
    pub drained : map.ordered before.below
        → DrainDone (map.leaves before.below) (map.leaves after.below) (map.rows before.below) (map.rows after.below)
        (drop coins_per_drain coins)
