-- What an Oram means, from what its record kind, its store and the map below it mean. Row 0 is its own; the map's rows follow.
use Rattle.std.specs.Prelude.{◌≡◌, ℕ, List, [], map, length, None, Option}
use Rattle.std.specs.Option.{option_map}
use Rattle.tree.specs.Queues.{queued}
use Rattle.steps.specs.Order.{content}
use Rattle.steps.specs.Steps.{Row}
use Rattle.record.specs.declared.kind.RecordKind.{Ghosts as KindMeaning}
use Rattle.store.specs.declared.interface.BucketStore.{Ghosts as StoreMeaning}
use Rattle.store.specs.Stores.{zeroed}
use Rattle.row.specs.Rows.{row_in}
use Rattle.posmap.specs.declared.interface.PositionMap.{Ghosts as MapMeaning}
use Rattle.posmap.specs.Maps.{MapRow, rows_zeroed}
use Rattle.front.specs.Fronts as fronts
use Rattle.oram.specs.declared.oram.Oram.{Oram}

-- the most records that an Oram may have
abbrev pub most_records : ℕ
most_records = 65536

-- N: how many records there are, one for each leaf of the map below
abbrev pub records_of : {K S P F : Type 0} → MapMeaning P F → Oram K S P → ℕ
records_of map o = length (map.leaves o.front.below)

-- row 0 as buckets and queue
abbrev pub row_of : {K S P : Type 0} → StoreMeaning S → Oram K S P → Row
row_of store o = row_in store o.front.row

-- all rows: its own by its store's span and log, then the map's
abbrev pub rows_of : {K S P F : Type 0} → StoreMeaning S → MapMeaning P F → Oram K S P → List MapRow
rows_of store map o = fronts.rows_of store map o.front

-- the depths of all rows
abbrev pub depths_of : {K S P F : Type 0} → StoreMeaning S → MapMeaning P F → Oram K S P → List ℕ
depths_of store meaning o = map (λ row. row.depth) (rows_of store meaning o)

-- the unfit row, if one is
abbrev pub unfit_of : {K S P F : Type 0} → StoreMeaning S → MapMeaning P F → Oram K S P → Option ℕ
unfit_of store map o = fronts.unfit_of store map most_records o.front

-- the lowest row whose queue is full, if one is
abbrev pub full_of : {K S P F : Type 0} → MapMeaning P F → Oram K S P → Option ℕ
full_of map o = fronts.full_of map o.front

-- in order: the map below is, and row 0 is with the leaves of that map
abbrev pub Ordered : {K S P F : Type 0} → StoreMeaning S → MapMeaning P F → Oram K S P → Type 0
Ordered store map o = fronts.Ordered store map o.front

-- what record number n holds: a record, or none
abbrev pub held : {K S P : Type 0} → KindMeaning K → StoreMeaning S → ℕ → Oram K S P → Option K
held kind store n o = option_map kind.made (content n (row_of store o))

-- just begun: every bucket zero, the queue empty, every leaf of every row 0, every log empty, no queue full, nothing opened
pub record Begun {K S P F : Type 0} (store : StoreMeaning S) (map : MapMeaning P F) (o : Oram K S P) : Type 0 where
  pub buckets : store.buckets o.front.row.store ≡ zeroed (store.buckets o.front.row.store)
  pub queue : queued o.front.row.queue ≡ []
  pub rows : rows_of store map o ≡ rows_zeroed (rows_of store map o)
  pub full : full_of map o ≡ None
  pub opened : o.opened ≡ 0
  pub ordered : Ordered store map o
