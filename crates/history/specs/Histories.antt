-- Histories: what calls were made, with which coins, and which were accepted. All that follows comes from these alone, never from
-- what a store holds. A history is latest first: the tail of a turn is what came before it.
use Rattle.std.specs.Prelude.{◌≡◌, ℕ, zero, suc, ◌+◌, ◌*◌, ◌/◌, ◌^◌, ◌<◌, Bool, true, cond, List, [], ◌∷◌, ◌++◌, map, length, replicate, Some, None, Option, ◌==◌, slice_index, slice_set}
use Rattle.tree.specs.Entries.{request_entries, drain_entries, request_moves, drain_moves}

-- a call on records of type R
pub data Call (R : Type 0) : Type 0 where
  opening : Call R
  getting : ℕ → Call R
  putting : ℕ → R → Call R
  draining : Call R
  tearing : Call R

-- a call, the coins it brought, and whether it was accepted
pub record Turn (R : Type 0) : Type 0 where
  pub call : Call R
  pub coins : List ℕ
  pub accepted : Bool

abbrev pub History : Type 0 → Type 0
History R = List (Turn R)

-- the coins, turn by turn
abbrev pub coins_of : {R : Type 0} → History R → List (List ℕ)
coins_of h = map (λ t. t.coins) h

-- the calls, turn by turn
abbrev pub calls_of : {R : Type 0} → History R → List (Call R)
calls_of h = map (λ t. t.call) h

-- which turns were accepted
abbrev pub accepted_in : {R : Type 0} → History R → List Bool
accepted_in h = map (λ t. t.accepted) h

-- the sort of a call: a get and a put are of one sort
pub data Sort : Type 0 where
  opens : Sort
  asks : Sort
  drains : Sort
  tears : Sort

abbrev pub sort : {R : Type 0} → Call R → Sort
sort opening = opens
sort (getting n) = asks
sort (putting n x) = asks
sort draining = drains
sort tearing = tears

-- the record that a get or a put names
abbrev pub named : {R : Type 0} → Call R → ℕ
named opening = 0
named (getting n) = n
named (putting n x) = n
named draining = 0
named tearing = 0

-- what a turn does: nothing if refused; a request for a record; a drain; a tear-off
pub data Deed : Type 0 where
  rest : Deed
  request : ℕ → Deed
  drain : Deed
  tear_off : Deed

-- an open requests the record whose number is the count k of accepted opens before it
abbrev pub accepting : Sort → ℕ → ℕ → Deed
accepting opens n k = request k
accepting asks n k = request n
accepting drains n k = drain
accepting tears n k = tear_off

abbrev pub deed_of : Bool → Sort → ℕ → ℕ → Deed
deed_of a s n k = cond a (accepting s n k) rest

abbrev pub opened_by : Sort → ℕ → ℕ
opened_by opens k = suc k
opened_by asks k = k
opened_by drains k = k
opened_by tears k = k

-- how many opens were accepted
abbrev pub opened : {R : Type 0} → History R → ℕ
opened [] = 0
opened (t ∷ h) = cond t.accepted (opened_by (sort t.call) (opened h)) (opened h)

-- what turn t does after h
abbrev pub deed : {R : Type 0} → Turn R → History R → Deed
deed t h = deed_of t.accepted (sort t.call) (named t.call) (opened h)

-- what the turns do
abbrev pub deeds : {R : Type 0} → History R → List Deed
deeds [] = []
deeds (t ∷ h) = deed t h ∷ deeds h

-- the record that is requested, if any
abbrev pub requested : Deed → Option ℕ
requested rest = None
requested (request n) = Some n
requested drain = None
requested tear_off = None

-- the records of the accepted requests, turn by turn
abbrev pub asked : List Deed → List (Option ℕ)
asked ds = map requested ds

-- how many leaves lie on one page
abbrev pub leaves_per_page : ℕ
leaves_per_page = 8

-- the number of record n in row r
abbrev pub row_number : ℕ → ℕ → ℕ
row_number zero n = n
row_number (suc r) n = row_number r n / leaves_per_page

-- the share of each row in the coins of a request, and of a drain
abbrev pub request_share : ℕ
request_share = 3

abbrev pub drain_share : ℕ
drain_share = 1

-- a row's share of a request: a new leaf and two flush leaves
abbrev pub new_leaf : ℕ → List ℕ → ℕ
new_leaf r c = slice_index c (request_share * r)

abbrev pub flush_leaves : ℕ → List ℕ → List ℕ
flush_leaves r c = slice_index c (request_share * r + 1) ∷ slice_index c (request_share * r + 2) ∷ []

-- a row's share of a drain
abbrev pub drain_leaf : ℕ → List ℕ → ℕ
drain_leaf r c = slice_index c (drain_share * r)

-- the numbers that row r is asked, turn by turn
abbrev pub number_in : ℕ → Option ℕ → Option ℕ
number_in r None = None
number_in r (Some n) = Some (row_number r n)

abbrev pub numbers_in : ℕ → List (Option ℕ) → List (Option ℕ)
numbers_in r ms = map (number_in r) ms

-- the new leaves of row r, turn by turn
abbrev pub leaves_in : ℕ → List (List ℕ) → List ℕ
leaves_in r cs = map (new_leaf r) cs

-- of numbers asked and leaves brought: the leaf that the latest request for number n brought, or 0
abbrev pub latest : List (Option ℕ) → List ℕ → ℕ → ℕ
latest [] xs n = 0
latest (o ∷ ms) [] n = 0
latest (None ∷ ms) (x ∷ xs) n = latest ms xs n
latest (Some m ∷ ms) (x ∷ xs) n = cond (m == n) x (latest ms xs n)

-- the leaf that row r shows for its number n after these turns
abbrev pub shown_in : ℕ → List Deed → List (List ℕ) → ℕ → ℕ
shown_in r ds cs n = latest (numbers_in r (asked ds)) (leaves_in r cs) n

abbrev pub shown : {R : Type 0} → ℕ → History R → ℕ → ℕ
shown r h n = shown_in r (deeds h) (coins_of h) n

-- the log of row r, of depth D, after these turns
abbrev pub log_of : ℕ → ℕ → List Deed → List (List ℕ) → List ℕ
log_of D r [] cs = []
log_of D r (d ∷ ds) [] = []
log_of D r (rest ∷ ds) (c ∷ cs) = log_of D r ds cs
log_of D r (request n ∷ ds) (c ∷ cs) = log_of D r ds cs ++ request_entries D (shown_in r ds cs (row_number r n)) (flush_leaves r c)
log_of D r (drain ∷ ds) (c ∷ cs) = log_of D r ds cs ++ drain_entries D (drain_leaf r c)
log_of D r (tear_off ∷ ds) (c ∷ cs) = []

-- the prescribed log of row r, of depth D
abbrev pub prescribed_log : {R : Type 0} → ℕ → ℕ → History R → List ℕ
prescribed_log D r h = log_of D r (deeds h) (coins_of h)

-- how many entries it has: those of the requests and drains since the last tear-off
abbrev pub moves_since : ℕ → List Deed → ℕ
moves_since D [] = 0
moves_since D (rest ∷ ds) = moves_since D ds
moves_since D (request n ∷ ds) = moves_since D ds + request_moves D
moves_since D (drain ∷ ds) = moves_since D ds + drain_moves D
moves_since D (tear_off ∷ ds) = 0

-- the plain array of N places: a put sets one, nothing else changes any
abbrev pub written : {R : Type 0} → Call R → List (Option R) → List (Option R)
written opening xs = xs
written (getting n) xs = xs
written (putting n x) xs = slice_set xs n (Some x)
written draining xs = xs
written tearing xs = xs

abbrev pub plain_array : {R : Type 0} → ℕ → History R → List (Option R)
plain_array N [] = replicate N None
plain_array N (t ∷ h) = cond t.accepted (written t.call (plain_array N h)) (plain_array N h)

-- a call of this sort, naming n, can be accepted after k opens of N
abbrev pub InTime : ℕ → Sort → ℕ → ℕ → Type 0
InTime N opens n k = k < N
InTime N asks n k = (k ≡ N) × (n < N)
InTime N drains n k = Unit {0}
InTime N tears n k = Unit {0}

-- so many coins for each row, each a leaf of the row's tree
abbrev pub Leaves : ℕ → List ℕ → List ℕ → Type 0
Leaves share Ds c =
    (length c ≡ share * length Ds)
    × ((r i : ℕ) → r < length Ds → i < share → slice_index c (share * r + i) < 2 ^ slice_index Ds r)

abbrev pub RightCoins : Sort → List ℕ → List ℕ → Type 0
RightCoins opens Ds c = Leaves request_share Ds c
RightCoins asks Ds c = Leaves request_share Ds c
RightCoins drains Ds c = Leaves drain_share Ds c
RightCoins tears Ds c = Unit {0}

-- turn t can be accepted after h, with N records and rows of depths Ds
abbrev pub CanAccept : {R : Type 0} → ℕ → List ℕ → Turn R → History R → Type 0
CanAccept N Ds t h =
    InTime N (sort t.call) (named t.call) (opened h) × RightCoins (sort t.call) Ds t.coins

-- every accepted turn of the history is one that can be accepted
abbrev pub AllCan : {R : Type 0} → ℕ → List ℕ → History R → Type 0
AllCan N Ds [] = Unit {0}
AllCan N Ds (t ∷ h) = (t.accepted ≡ true → CanAccept N Ds t h) × AllCan N Ds h
