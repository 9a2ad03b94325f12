-- The run law: an Oram is what its history says, call after call.
use Rattle.std.specs.Prelude.{◌≡◌, ℕ, ◌+◌, ◌<◌, ◌≤◌, true, List, [], ◌∷◌, length, Some, None, Option, ◌≢◌, slice_index, slice_index_or}
use Rattle.std.specs.List.{AllByRecursion}
use Rattle.tree.specs.Blocks.{capacity}
use Rattle.tree.specs.Entries.{drain_moves, request_moves, total}
use Rattle.record.specs.declared.kind.RecordKind.{Ghosts as KindMeaning}
use Rattle.store.specs.declared.interface.BucketStore.{Ghosts as StoreMeaning}
use Rattle.posmap.specs.declared.interface.PositionMap.{Ghosts as MapMeaning}
use Rattle.posmap.specs.Maps.{Card, MapRow, row_at}
use Rattle.history.specs.Histories.{AllCan, Call, History, InTime, RightCoins, Sort, opens, asks, drains, tears, Turn, named, plain_array, prescribed_log, shown, sort}
use Rattle.history.specs.Histories as history
use Rattle.oram.specs.declared.oram.Oram.{Oram}
use Rattle.oram.specs.Calls.{Outcome, answer_of, did, is_done, refusal_in, requested_by}
use Rattle.oram.specs.Orams.{Ordered, depths_of, full_of, held, records_of, rows_of, unfit_of}

-- the turn of a call: its coins, and whether it was accepted
abbrev pub turn_of : {R : Type 0} → Call R → List ℕ → Outcome R → Turn R
turn_of call coins outcome = record { call = call; coins = coins; accepted = is_done outcome }

-- the Oram is what one just begun has become through the history h
pub record Worked {K S P F : Type 0} (kind : KindMeaning K) (store : StoreMeaning S) (map : MapMeaning P F) (h : History K) (o : Oram K S P) : Type 0 where
  -- it is in order
  pub ordered : Ordered store map o
  -- every row's log is the prescribed one
  pub logs : (r : ℕ) → r < length (rows_of store map o)
      → (row_at (rows_of store map o) r).log ≡ prescribed_log (row_at (rows_of store map o) r).depth r h
  -- every row's leaf for every number is the shown one
  pub leaves : (r n : ℕ) → r < length (rows_of store map o) → n < length (row_at (rows_of store map o) r).own
      → slice_index (row_at (rows_of store map o) r).own n ≡ shown r h n
  -- as many records are opened as opens were accepted
  pub opened : o.opened ≡ history.opened h
  -- every record is the one in the plain array
  pub array : (n : ℕ) → n < records_of map o → held kind store n o ≡ slice_index_or (plain_array (records_of map o) h) n None
  -- every accepted turn is one that can be accepted
  pub can : AllCan (records_of map o) (depths_of store map o) h

-- the entries of all logs together
abbrev pub moves_in : List MapRow → ℕ
moves_in [] = 0
moves_in (row ∷ rows) = length row.log + moves_in rows

-- what a call of this sort enters in a row of depth D
abbrev pub moves_by : Sort → ℕ → ℕ
moves_by opens D = request_moves D
moves_by asks D = request_moves D
moves_by drains D = drain_moves D
moves_by tears D = 0

-- the entries of all logs after an accepted call: what it enters in each row joins those that were there; a tear-off leaves none
abbrev pub moves_after : Sort → List ℕ → ℕ → ℕ
moves_after opens Ds k = k + total (moves_by opens) Ds
moves_after asks Ds k = k + total (moves_by asks) Ds
moves_after drains Ds k = k + total (moves_by drains) Ds
moves_after tears Ds k = 0

-- every row can be asked at most 31 numbers
abbrev pub Small : List MapRow → Type 0
Small rows = AllByRecursion (λ row. length row.own < capacity) rows

-- a request wants room in every queue, a drain does not
abbrev pub Room : Sort → Option ℕ → Type 0
Room opens full = full ≡ None
Room asks full = full ≡ None
Room drains full = Unit {0}
Room tears full = Unit {0}

module _ {K S P F : Type 0} (store : StoreMeaning S) (map : MapMeaning P F) (coins : List ℕ) (o : Oram K S P) where
  -- nothing stands against a call
  pub record Acceptable (call : Call K) : Type 0 where
    -- every row is fit
    pub fit : unfit_of store map o ≡ None
    -- the number and the count of opened records are right
    pub in_time : InTime (records_of map o) (sort call) (named call) o.opened
    -- the coins are right
    pub right : RightCoins (sort call) (depths_of store map o) coins
    -- every log has the entries free
    pub free : (r : ℕ) → r < length (rows_of store map o)
        → length (row_at (rows_of store map o) r).log + moves_by (sort call) (row_at (rows_of store map o) r).depth
        ≤ (row_at (rows_of store map o) r).span
    -- and, for a request, no queue is full
    pub room : Room (sort call) (full_of map o)

module _ {K S P F : Type 0} (kind : KindMeaning K) (store : StoreMeaning S) (map : MapMeaning P F) (coins : List ℕ) (o o' : Oram K S P) where
  -- the laws of every call
  pub record Lawful (call : Call K) (outcome : Outcome K) : Type 0 where
    -- after every history: the Oram goes on as the history does
    pub worked : (h : History K) → Worked kind store map h o → Worked kind store map (turn_of call coins outcome ∷ h) o'
    -- and what a get or a put answers is what the plain array holds
    pub right : (h : History K) → Worked kind store map h o → is_done outcome ≡ true
        → outcome ≡ did (answer_of call (slice_index_or (plain_array (records_of map o) h) (requested_by o.opened call) None))
    -- the call enters what is prescribed, summed over all rows
    pub moves : Ordered store map o → is_done outcome ≡ true
        → moves_in (rows_of store map o') ≡ moves_after (sort call) (depths_of store map o) (moves_in (rows_of store map o))
    -- where every row can be asked at most 31 numbers, 8 is never the refusal
    pub small : Ordered store map o → Small (rows_of store map o) → (c : Card) → refusal_in outcome ≡ Some c → c.number ≢ 8
    -- where nothing stands against it, the call is accepted
    pub accepts : Acceptable store map coins o call → is_done outcome ≡ true
