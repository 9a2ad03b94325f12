-- What each call of an Oram does: one relation between the Oram before and the Oram after.
use Rattle.std.specs.Prelude.{◌≡◌, ℕ, Bool, true, false, List, [], ◌∷◌, length, drop, Some, None, Ok, Err, Option, Result, ◌==◌, nat_lt, slice_index}
use Rattle.tree.specs.declared.block.Block.{Block}
use Rattle.row.specs.Requests.{ArrivesAs}
use Rattle.steps.specs.Order.{content}
use Rattle.steps.specs.Steps.{dequeued, fetched, second_half}
use Rattle.record.specs.declared.kind.RecordKind.{Ghosts as KindMeaning}
use Rattle.store.specs.declared.interface.BucketStore.{Ghosts as StoreMeaning}
use Rattle.card.specs.declared.fault.CardFault.{Ghosts as CardMeaning}
use Rattle.posmap.specs.declared.interface.PositionMap.{Ghosts as MapMeaning}
use Rattle.posmap.specs.Maps.{Card, MapRow, SameFrame, coins_per_drain, coins_per_request, drain_refusal, naming, or_else, row_swapped, rows_drained, rows_swapped, rows_torn, swap_refusal, unless}
use Rattle.front.specs.Fronts.{own}
use Rattle.history.specs.Histories.{Call, opening, getting, putting, draining, tearing, opened_by, sort}
use Rattle.oram.specs.declared.fault.OramFault.{OramFault}
use Rattle.oram.specs.declared.oram.Oram.{Oram}
use Rattle.oram.specs.Faults.{oram_number, oram_row}
use Rattle.oram.specs.Orams.{Ordered, full_of, held, records_of, row_of, rows_of, unfit_of}

-- how a call ends: refused, with its place on the card; or done, with the record that it found and answers, if any
pub data Outcome (R : Type 0) : Type 0 where
  refused : Card → Outcome R
  did : Option R → Outcome R

abbrev pub is_done : {R : Type 0} → Outcome R → Bool
is_done (refused c) = false
is_done (did x) = true

abbrev pub refusal_in : {R : Type 0} → Outcome R → Option Card
refusal_in (refused c) = Some c
refusal_in (did x) = None

-- the outcome that an answer tells
abbrev pub card_in : {F : Type 0} → CardMeaning F → OramFault F → Card
card_in card f = record { number = oram_number card.number_of f; row = oram_row card.row_of f }

abbrev pub found : {R F : Type 0} → CardMeaning F → Result (Option R) (OramFault F) → Outcome R
found card (Ok x) = did x
found card (Err f) = refused (card_in card f)

abbrev pub done : {R F : Type 0} → CardMeaning F → Result (Unit {0}) (OramFault F) → Outcome R
done card (Ok x) = did None
done card (Err f) = refused (card_in card f)

-- a request for record n is refused as a swap is, by the map's own definition with row 0 in front
abbrev pub request_refusal : {K S P F : Type 0} → StoreMeaning S → MapMeaning P F → Oram K S P → ℕ → List ℕ → Option Card
request_refusal store map o n coins =
    swap_refusal (map.leaves o.front.below) (rows_of store map o) (unfit_of store map o) (full_of map o) n 0 coins

-- an open comes in time while records are left to open; a get or a put names a record that there is, once all are opened
abbrev pub open_time : ℕ → ℕ → Option Card
open_time N opened = unless (nat_lt opened N) (own 4)

abbrev pub ask_time : ℕ → ℕ → ℕ → Option Card
ask_time N opened n = or_else (unless (nat_lt n N) (own 2)) (unless (opened == N) (own 3))

-- how a call is refused, if it is: the smallest number, with its row
abbrev pub refusal_of : {K S P F : Type 0} → StoreMeaning S → MapMeaning P F → Oram K S P → Call K → List ℕ → Option Card
refusal_of store map o opening coins =
    or_else (naming 1 (unfit_of store map o)) (or_else (open_time (records_of map o) o.opened) (request_refusal store map o o.opened coins))
refusal_of store map o (getting n) coins =
    or_else (naming 1 (unfit_of store map o)) (or_else (ask_time (records_of map o) o.opened n) (request_refusal store map o n coins))
refusal_of store map o (putting n x) coins =
    or_else (naming 1 (unfit_of store map o)) (or_else (ask_time (records_of map o) o.opened n) (request_refusal store map o n coins))
refusal_of store map o draining coins = drain_refusal (rows_of store map o) (unfit_of store map o) coins
refusal_of store map o tearing coins = None

-- the record that a call requests, where k are opened
abbrev pub requested_by : {R : Type 0} → ℕ → Call R → ℕ
requested_by k opening = k
requested_by k (getting n) = n
requested_by k (putting n x) = n
requested_by k draining = 0
requested_by k tearing = 0

-- the words that stand under the number afterwards: those that stood there, but for a put
abbrev pub words_after : {K : Type 0} → KindMeaning K → Call K → Option (List ℕ) → Option (List ℕ)
words_after kind opening words = words
words_after kind (getting n) words = words
words_after kind (putting n x) words = Some (kind.laid x)
words_after kind draining words = words
words_after kind tearing words = words

-- what a call answers of the record that it found
abbrev pub answer_of : {R : Type 0} → Call R → Option R → Option R
answer_of opening x = None
answer_of (getting n) x = x
answer_of (putting n y) x = x
answer_of draining x = None
answer_of tearing x = None

-- every row is asked: row 0 for the record, each further one for the number divided once more, with its share of the coins
abbrev pub rows_requested : List MapRow → ℕ → List ℕ → List MapRow
rows_requested [] n coins = []
rows_requested (row ∷ rows) n coins = row_swapped row n coins ∷ rows_swapped rows n (drop coins_per_request coins)

module _ {K S P F : Type 0} (kind : KindMeaning K) (store : StoreMeaning S) (map : MapMeaning P F) (coins : List ℕ) (o o' : Oram K S P) where
  -- a request for record n, after which these words stand there
  pub record Requested (n : ℕ) (words : Option (List ℕ) → Option (List ℕ)) : Type 0 where
    -- in every row the leaf of its number is shown and replaced by the new one, and the log gains the prescribed entries
    pub rows : rows_of store map o' ≡ rows_requested (rows_of store map o) n coins
    -- row 0: the record is fetched along its leaf, arrives with its new one, or does not, and two dequeues follow
    pub arrives : Option Block
    pub arrives_as : ArrivesAs n (slice_index coins 0) (words (content n (row_of store o))) arrives
    pub row : row_of store o'
        ≡ second_half o.front.row.depth arrives (slice_index coins 1 ∷ slice_index coins 2 ∷ [])
        (fetched o.front.row.depth n (slice_index (map.leaves o.front.below) n) (row_of store o))
    -- and all that this very map does
    pub below : map.swapped o.front.below n (slice_index coins 0) (drop coins_per_request coins) o'.front.below

  -- one dequeue in every row
  pub record Drained : Type 0 where
    pub rows : rows_of store map o' ≡ rows_drained (rows_of store map o) coins
    pub row : row_of store o' ≡ dequeued o.front.row.depth (slice_index coins 0) (row_of store o)
    pub below : map.drained o.front.below (drop coins_per_drain coins) o'.front.below

  -- every log emptied, and nothing else changed
  pub record TornOff : Type 0 where
    pub rows : rows_of store map o' ≡ rows_torn (rows_of store map o)
    pub buckets : store.buckets o'.front.row.store ≡ store.buckets o.front.row.store
    pub queue : o'.front.row.queue ≡ o.front.row.queue
    pub full : full_of map o' ≡ full_of map o

  -- the work of an accepted call
  abbrev pub Work : Call K → Type 0
  Work opening = Requested o.opened (words_after kind opening)
  Work (getting n) = Requested n (words_after kind (getting n))
  Work (putting n x) = Requested n (words_after kind (putting n x))
  Work draining = Drained
  Work tearing = TornOff

  -- what no call changes: N, every row's depth, span and count of own leaves, the unfit row, and the count of buckets
  pub record Frame : Type 0 where
    pub rows : SameFrame (map.leaves o.front.below) (map.leaves o'.front.below) (rows_of store map o) (rows_of store map o')
        (unfit_of store map o) (unfit_of store map o')
    pub buckets : length (store.buckets o'.front.row.store) ≡ length (store.buckets o.front.row.store)

  -- an accepted call of an Oram in order
  pub record Done (call : Call K) (outcome : Outcome K) : Type 0 where
    pub answer : outcome ≡ did (answer_of call (held kind store (requested_by o.opened call) o))
    pub opened : o'.opened ≡ opened_by (sort call) o.opened
    pub work : Work call
    pub ordered : Ordered store map o'

  -- the whole of a call
  pub record Does (call : Call K) (outcome : Outcome K) : Type 0 where
    -- it is refused as defined, never otherwise, and then nothing has changed
    pub refusal : refusal_in outcome ≡ refusal_of store map o call coins
    pub same : is_done outcome ≡ false → o' ≡ o
    pub frame : Frame
    pub accepted : Ordered store map o → is_done outcome ≡ true → Done call outcome
