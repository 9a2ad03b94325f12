-- A row in front of a map's rows: seen from it, every row of the map is one deeper.
use Rattle.std.specs.Prelude.{ℕ, suc, ◌+◌, min, Bool, cond, not, ◌&&◌, ◌||◌, List, ◌∷◌, length, drop, Some, None, Option, Result, ◌==◌, nat_le, nat_lt, slice_index}
use Rattle.std.specs.Option.{option_map}
use Rattle.tree.specs.declared.block.Block.{Block}
use Rattle.tree.specs.Blocks.{capacity}
use Rattle.tree.specs.Entries.{drain_moves, request_moves}
use Rattle.tree.specs.Paths.{is_depth}
use Rattle.row.specs.Trials.{is_fit}
use Rattle.row.specs.Rows.{row_in}
use Rattle.steps.specs.Order.{InOrder}
use Rattle.tree.specs.Queues.{queued}
use Rattle.front.specs.declared.front.Front.{Front}
use Rattle.store.specs.declared.interface.BucketStore.{Ghosts as StoreMeaning}
use Rattle.card.specs.declared.fault.CardFault.{Ghosts as CardMeaning}
use Rattle.posmap.specs.declared.fault.LevelFault.{LevelFault}
use Rattle.posmap.specs.declared.interface.PositionMap.{Ghosts as MapMeaning}
use Rattle.posmap.specs.Faults.{last_row, level_card}
use Rattle.posmap.specs.Maps.{Card, MapRow, card_of, coins_below, coins_per_drain, coins_per_request, or_else, swap_refusal, drain_refusal, unless}

-- the most rows that a map below may have, and one more
abbrev pub most_rows : ℕ
most_rows = 255

-- a row is fit by itself: its depth and buckets, how many numbers the map has for it, and how many rows are below
abbrev pub fit_up_to : ℕ → ℕ → ℕ → ℕ → ℕ → Bool
fit_up_to most D count n rows = is_fit D count && (nat_le 1 n && (nat_le n most && nat_lt rows most_rows))

-- a row below is one deeper, seen from above
abbrev pub deeper : Option ℕ → Option ℕ
deeper o = option_map suc o

-- the unfit row below is named, if there is one; else row 0, if it is unfit itself
abbrev pub front_unfit : Bool → Option ℕ → Option ℕ
front_unfit fit None = cond fit None (Some 0)
front_unfit fit (Some r) = Some (suc r)

-- row 0 is full exactly when its queue holds 32, else as below
abbrev pub front_full : List Block → Option ℕ → Option ℕ
front_full queue full = cond (length queue == capacity) (Some 0) (deeper full)

-- the row itself, with the leaves of the map below as its own, and then the rows of the map
abbrev pub front_rows : ℕ → List ℕ → ℕ → List ℕ → List MapRow → List MapRow
front_rows D below span log rows = record { depth = D; own = below; span = span; log = log } ∷ rows

-- all rows of a store and of the map below it, where the row in front has depth D
abbrev pub rows_with : {S P F : Type 0} → StoreMeaning S → MapMeaning P F → S → P → ℕ → List MapRow
rows_with store map s below D = front_rows D (map.leaves below) (store.span s) (store.log s) (map.rows below)

-- the unfit one of them, where the map below may have so many leaves
abbrev pub unfit_with : {S P F : Type 0} → StoreMeaning S → MapMeaning P F → ℕ → S → P → ℕ → Option ℕ
unfit_with store map most s below D =
    front_unfit (fit_up_to most D (length (store.buckets s)) (length (map.leaves below)) (length (map.rows below))) (map.unfit below)

-- the same of a row in front of a map: its rows, its unfit row, and whether it is fit by itself
abbrev pub rows_of : {S P F : Type 0} → StoreMeaning S → MapMeaning P F → Front S P → List MapRow
rows_of store map f = rows_with store map f.row.store f.below f.row.depth

abbrev pub unfit_of : {S P F : Type 0} → StoreMeaning S → MapMeaning P F → ℕ → Front S P → Option ℕ
unfit_of store map most f = unfit_with store map most f.row.store f.below f.row.depth

abbrev pub is_fit_up_to : {S P F : Type 0} → StoreMeaning S → MapMeaning P F → ℕ → Front S P → Bool
is_fit_up_to store map most f =
    fit_up_to most f.row.depth (length (store.buckets f.row.store)) (length (map.leaves f.below)) (length (map.rows f.below))

-- the lowest row whose queue is full, if one is
abbrev pub full_of : {S P F : Type 0} → MapMeaning P F → Front S P → Option ℕ
full_of map f = front_full (queued f.row.queue) (map.full f.below)

-- it is in order: the map is, and its row is with the leaves of that map
abbrev pub Ordered : {S P F : Type 0} → StoreMeaning S → MapMeaning P F → Front S P → Type 0
Ordered store map f = map.ordered f.below × InOrder f.row.depth (map.leaves f.below) (row_in store f.row)

-- the place on the card of an answer by a row in front of a map
abbrev pub front_card : {F T : Type 0} → CardMeaning F → Result T (LevelFault F) → Option Card
front_card card r = card_of (level_card card) r

-- a refusal by the row itself: it is row 0
abbrev pub own : ℕ → Card
own n = record { number = n; row = 0 }

-- a refusal from below, one row deeper, as far as a row can be named
abbrev pub raised : Card → Card
raised c = record { number = c.number; row = min last_row (c.row + 1) }

-- the refusal from below comes first if its number is 1, by which the deepest row is named, or smaller than the row's own
abbrev pub below_first : Card → Card → Bool
below_first mine lower = lower.number == 1 || nat_lt lower.number mine.number

-- of the row's own refusal and the one from below, the one that the caller gets
abbrev pub first_card : Option Card → Option Card → Option Card
first_card mine None = mine
first_card None (Some lower) = Some (raised lower)
first_card (Some mine) (Some lower) = cond (below_first mine lower) (Some (raised lower)) (Some mine)

-- the first so many coins are leaves of a tree of depth D
abbrev pub coins_fit : ℕ → ℕ → List ℕ → Bool
coins_fit D share coins = is_depth D && coins_below D share coins

-- how the row by itself refuses a request from its coins on: its depth, span and log, and how many blocks wait in its queue
abbrev pub own_request : ℕ → ℕ → List ℕ → ℕ → List ℕ → Option Card
own_request D span log waiting coins =
    or_else (unless (coins_fit D coins_per_request coins) (own 6))
    (or_else (unless (nat_le (length log + request_moves D) span) (own 7)) (unless (not (waiting == capacity)) (own 8)))

-- and a drain, which a full queue does not refuse
abbrev pub own_drain : ℕ → ℕ → List ℕ → List ℕ → Option Card
own_drain D span log coins =
    or_else (unless (coins_fit D coins_per_drain coins) (own 6)) (unless (nat_le (length log + drain_moves D) span) (own 7))

-- how row and map together refuse a request from the coins on, where the map is asked for number n: its leaves, rows, unfit and
-- full row, and then the row's depth, span, log and queue
abbrev pub request_from : List ℕ → List MapRow → Option ℕ → Option ℕ → ℕ → ℕ → ℕ → List ℕ → ℕ → List ℕ → Option Card
request_from leaves rows unfit full n D span log waiting coins =
    cond (nat_le coins_per_request (length coins))
    (first_card (own_request D span log waiting coins) (swap_refusal leaves rows unfit full n (slice_index coins 0) (drop coins_per_request coins)))
    (Some (own 5))

-- and a drain
abbrev pub drain_from : List MapRow → Option ℕ → ℕ → ℕ → List ℕ → List ℕ → Option Card
drain_from rows unfit D span log coins =
    cond (nat_le coins_per_drain (length coins))
    (first_card (own_drain D span log coins) (drain_refusal rows unfit (drop coins_per_drain coins))) (Some (own 5))

-- the same of a row in front of a map, where the map is asked for number n
abbrev pub request_refusal_from : {S P F : Type 0} → StoreMeaning S → MapMeaning P F → Front S P → ℕ → List ℕ → Option Card
request_refusal_from store map f n coins =
    request_from (map.leaves f.below) (map.rows f.below) (map.unfit f.below) (map.full f.below) n f.row.depth (store.span f.row.store)
    (store.log f.row.store) (length (queued f.row.queue)) coins

abbrev pub drain_refusal_from : {S P F : Type 0} → StoreMeaning S → MapMeaning P F → Front S P → List ℕ → Option Card
drain_refusal_from store map f coins =
    drain_from (map.rows f.below) (map.unfit f.below) f.row.depth (store.span f.row.store) (store.log f.row.store) coins

-- how a request made at once is refused: an unfit row first, and then from the coins on
abbrev pub request_refused : {S P F : Type 0} → StoreMeaning S → MapMeaning P F → Front S P → ℕ → List ℕ → Option Card
request_refused store map f n coins =
    or_else (unless (is_fit f.row.depth (length (store.buckets f.row.store))) (own 1)) (request_refusal_from store map f n coins)

-- and a drain
abbrev pub drain_refused : {S P F : Type 0} → StoreMeaning S → MapMeaning P F → Front S P → List ℕ → Option Card
drain_refused store map f coins =
    or_else (unless (is_fit f.row.depth (length (store.buckets f.row.store))) (own 1)) (drain_refusal_from store map f coins)
