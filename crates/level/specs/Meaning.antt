-- What a level means, from what its store and the map below mean.
use Rattle.std.specs.Prelude.{◌≡◌, ℕ, ◌/◌, List, length, drop, Option, slice_index}
use Rattle.steps.specs.Steps.{Row}
use Rattle.store.specs.declared.interface.BucketStore.{Ghosts as StoreMeaning}
use Rattle.row.specs.Rows.{row_in}
use Rattle.posmap.specs.declared.interface.PositionMap.{Ghosts as MapMeaning}
use Rattle.posmap.specs.Maps.{Card, DrainDone, MapRow, SameFrame, SameMeaning, SwapDone, coins_per_drain, coins_per_request, drain_refusal, leaves_per_page, swap_refusal}
use Rattle.front.specs.Fronts as front
use Rattle.level.specs.declared.level.Level.{Level}
use Rattle.level.specs.Levels.{RowDrained, RowSwapped, level_leaves, most_pages}

-- the row that its store's buckets and its queue mean
abbrev pub own_row : {S P : Type 0} → StoreMeaning S → Level S P → Row
own_row store s = row_in store s.front.row

-- how many pages it has, one for each leaf of the map below
abbrev pub pages_of : {S P F : Type 0} → MapMeaning P F → Level S P → ℕ
pages_of map s = length (map.leaves s.front.below)

-- its rows: its own by its store's span and log, then those below
abbrev pub rows_of : {S P F : Type 0} → StoreMeaning S → MapMeaning P F → Level S P → List MapRow
rows_of store map s = front.rows_of store map s.front

-- its unfit row
abbrev pub unfit_of : {S P F : Type 0} → StoreMeaning S → MapMeaning P F → Level S P → Option ℕ
unfit_of store map s = front.unfit_of store map most_pages s.front

-- its leaves
abbrev pub leaves_of : {S P F : Type 0} → StoreMeaning S → MapMeaning P F → Level S P → List ℕ
leaves_of store map s = level_leaves (unfit_of store map s) (own_row store s) (pages_of map s)

-- its full row
abbrev pub full_of : {S P F : Type 0} → MapMeaning P F → Level S P → Option ℕ
full_of map s = front.full_of map s.front

-- it is in order: the map below is, and its row is with the leaves of that map
abbrev pub Ordered : {S P F : Type 0} → StoreMeaning S → MapMeaning P F → Level S P → Type 0
Ordered store map s = front.Ordered store map s.front

-- how it refuses a swap, and a drain
abbrev pub swap_refused : {S P F : Type 0} → StoreMeaning S → MapMeaning P F → Level S P → ℕ → ℕ → List ℕ → Option Card
swap_refused store map s i new coins =
    swap_refusal (leaves_of store map s) (rows_of store map s) (unfit_of store map s) (full_of map s) i new coins

abbrev pub drain_refused : {S P F : Type 0} → StoreMeaning S → MapMeaning P F → Level S P → List ℕ → Option Card
drain_refused store map s coins = drain_refusal (rows_of store map s) (unfit_of store map s) coins

module _ {S P F : Type 0} (store : StoreMeaning S) (map : MapMeaning P F) (s t : Level S P) where
  -- what no call changes from the level s to the level t
  abbrev pub Frame : Type 0
  Frame =
      SameFrame (leaves_of store map s) (leaves_of store map t) (rows_of store map s) (rows_of store map t)
      (unfit_of store map s) (unfit_of store map t)

  -- what a refused call leaves: everything
  abbrev pub Unchanged : Type 0
  Unchanged =
      SameMeaning (leaves_of store map s) (leaves_of store map t) (rows_of store map s) (rows_of store map t) (full_of map s)
      (full_of map t)

  -- what an accepted swap of leaf i answers and does, and an accepted drain, of a level in order
  abbrev pub LeafSwapped : ℕ → ℕ → List ℕ → ℕ → Type 0
  LeafSwapped i new coins answer =
      SwapDone (leaves_of store map s) (leaves_of store map t) (rows_of store map s) (rows_of store map t) i new coins answer

  abbrev pub RowsDrained : List ℕ → Type 0
  RowsDrained coins = DrainDone (leaves_of store map s) (leaves_of store map t) (rows_of store map s) (rows_of store map t) coins

-- All that a level does as it swaps leaf i for a new one: the map below swaps the leaf of its page for the page's own new leaf, with
-- the coins that are left, and its row works along the leaf that was shown.
pub record Swapped {S P F : Type 0} (store : StoreMeaning S) (map : MapMeaning P F) (s : Level S P) (i new : ℕ) (coins : List ℕ)
    (t : Level S P) : Type 0 where
  pub below : map.swapped s.front.below (i / leaves_per_page) (slice_index coins 0) (drop coins_per_request coins) t.front.below
  pub shown : ℕ
  pub row : RowSwapped s.front.row.depth (own_row store s) (own_row store t) (store.log s.front.row.store) (store.log t.front.row.store) i new shown coins
  pub depth : t.front.row.depth ≡ s.front.row.depth
  pub span : store.span t.front.row.store ≡ store.span s.front.row.store
  pub count : length (store.buckets t.front.row.store) ≡ length (store.buckets s.front.row.store)

-- and as it drains
pub record Drained {S P F : Type 0} (store : StoreMeaning S) (map : MapMeaning P F) (s : Level S P) (coins : List ℕ) (t : Level S P) : Type 0 where
  pub below : map.drained s.front.below (drop coins_per_drain coins) t.front.below
  pub row : RowDrained s.front.row.depth (own_row store s) (own_row store t) (store.log s.front.row.store) (store.log t.front.row.store) coins
  pub depth : t.front.row.depth ≡ s.front.row.depth
  pub span : store.span t.front.row.store ≡ store.span s.front.row.store
  pub count : length (store.buckets t.front.row.store) ≡ length (store.buckets s.front.row.store)
