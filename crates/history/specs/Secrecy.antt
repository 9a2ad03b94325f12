-- Relabelled coins: what the second of two lists of calls is given, so that the host sees the same.
use Rattle.std.specs.Prelude.{◌≡◌, ℕ, suc, ◌-◌, ◌*◌, ◌/◌, ◌%◌, ◌^◌, ◌<◌, Bool, true, false, cond, ◌&&◌, List, [], ◌∷◌, map, length, drop, Some, None, Option, ◌==◌, ◌≢◌, nat_lt, slice_index}
use Rattle.std.specs.List.{AllByRecursion}
use Rattle.history.specs.Histories.{Call, History, sort, Deed, rest, request, drain, tear_off, deeds, asked, coins_of, calls_of, accepted_in, AllCan, Leaves, request_share, drain_share, new_leaf, numbers_in, leaves_in, latest, prescribed_log, moves_since}

-- alike lists: equally long, and at each turn both open, both drain, both tear off, or each gets or puts
abbrev pub Alike : {R : Type 0} → List (Call R) → List (Call R) → Type 0
Alike cs ds = map sort cs ≡ map sort ds

-- the element of turn t, turns counted from 0 at the oldest
abbrev pub at_turn : {A : Type 0} → A → List A → ℕ → A
at_turn d [] t = d
at_turn d (x ∷ xs) t = cond (t == length xs) x (at_turn d xs t)

-- at turn t the row is asked number n
abbrev pub Asked : List (Option ℕ) → ℕ → ℕ → Type 0
Asked ms t n = at_turn None ms t ≡ Some n

-- where a new leaf is shown next: at a turn, or never, and then it is known by the row's number it was brought for
pub data Showing : Type 0 where
  shown_at : ℕ → Showing
  kept_for : ℕ → Showing

-- the next showing of the leaf that the request of turn t brought to a row
abbrev pub NextShowing : List (Option ℕ) → ℕ → Showing → Type 0
NextShowing ms t (shown_at u) =
    (t < u) × ((n : ℕ) × Asked ms t n × Asked ms u n × ((v : ℕ) → t < v → v < u → Asked ms v n → ⊥))
NextShowing ms t (kept_for n) = Asked ms t n × ((v : ℕ) → t < v → Asked ms v n → ⊥)

-- at turn t a request was accepted
abbrev pub Requested : List (Option ℕ) → ℕ → Type 0
Requested ms t = (n : ℕ) × Asked ms t n

-- the records that the accepted requests of a history ask, turn by turn
abbrev pub requested_in : {R : Type 0} → History R → List (Option ℕ)
requested_in h = asked (deeds h)

-- two histories side by side: alike lists, the same turns accepted, and these such that the first can accept them
pub record SideBySide (R : Type 0) (N : ℕ) (Ds : List ℕ) (h g : History R) : Type 0 where
  pub alike : Alike (calls_of h) (calls_of g)
  pub turns : accepted_in h ≡ accepted_in g
  pub first_can : AllCan N Ds h

-- as many entries for each call
abbrev pub SameShape : List (List ℕ) → List (List ℕ) → Type 0
SameShape cs ds = map length cs ≡ map length ds

-- the meaning of relabelled coins, ys, where cs are those of the first list: at each accepted request and in each row, the second
-- list's new leaf is the first's with the same next showing; flush leaves, drain coins and coins of refused turns stay
pub record IsRelabelled (R : Type 0) (Ds : List ℕ) (h g : History R) (cs ys : List (List ℕ)) : Type 0 where
  pub shape : SameShape ys cs
  pub leaves : (r t u : ℕ) (s : Showing) → r < length Ds
      → NextShowing (numbers_in r (requested_in g)) t s → NextShowing (numbers_in r (requested_in h)) u s
      → new_leaf r (at_turn [] ys t) ≡ new_leaf r (at_turn [] cs u)
  pub stays : (t i : ℕ) → (Requested (requested_in h) t → (r : ℕ) → r < length Ds → i ≢ request_share * r)
      → slice_index (at_turn [] ys t) i ≡ slice_index (at_turn [] cs t) i

-- relabelled coins computed. In one row, backwards from the latest turn: `due n` is the leaf that the second list must have brought
-- last for number n; before a request for b that is, for b, the leaf which the first list shows at this turn
abbrev pub settled : (ℕ → ℕ) → ℕ → ℕ → ℕ → ℕ
settled due b x n = cond (b == n) x (due n)

abbrev pub given : (ℕ → ℕ) → List (Option ℕ) → List (Option ℕ) → List ℕ → List ℕ
given due [] ns xs = []
given due (o ∷ ms) [] xs = []
given due (o ∷ ms) (p ∷ ns) [] = []
given due (None ∷ ms) (p ∷ ns) (x ∷ xs) = x ∷ given due ms ns xs
given due (Some a ∷ ms) (None ∷ ns) (x ∷ xs) = x ∷ given due ms ns xs
given due (Some a ∷ ms) (Some b ∷ ns) (x ∷ xs) = due b ∷ given (settled due b (latest ms xs a)) ms ns xs

abbrev pub row_given : List (Option ℕ) → List (Option ℕ) → List ℕ → List ℕ
row_given ms ns xs = given (latest ms xs) ms ns xs

-- a request's coins with other new leaves, which are the first of each row's share
abbrev pub with_leaves : (ℕ → ℕ) → ℕ → List ℕ → List ℕ
with_leaves leaf i [] = []
with_leaves leaf i (x ∷ c) = cond (i % request_share == 0) (leaf (i / request_share)) x ∷ with_leaves leaf (suc i) c

-- the coins with other new leaves at each accepted request
abbrev pub replaced : (ℕ → List ℕ) → List (Option ℕ) → List (List ℕ) → List (List ℕ)
replaced leaves [] cs = cs
replaced leaves (o ∷ ms) [] = []
replaced leaves (None ∷ ms) (c ∷ cs) = c ∷ replaced (λ r. drop 1 (leaves r)) ms cs
replaced leaves (Some n ∷ ms) (c ∷ cs) =
    with_leaves (λ r. slice_index (leaves r) 0) 0 c ∷ replaced (λ r. drop 1 (leaves r)) ms cs

-- every record named is below N
abbrev pub all_below : ℕ → List (Option ℕ) → Bool
all_below N [] = true
all_below N (None ∷ ms) = all_below N ms
all_below N (Some n ∷ ms) = nat_lt n N && all_below N ms

-- the relabelled coins, from the records that the accepted requests of the two lists ask and the first coins
abbrev pub relabelled : ℕ → List (Option ℕ) → List (Option ℕ) → List (List ℕ) → List (List ℕ)
relabelled N ms ns cs =
    cond (all_below N ns) (replaced (λ r. row_given (numbers_in r ms) (numbers_in r ns) (leaves_in r cs)) ns cs) cs

-- the relabelled coins for the list of g, where cs are those of the list of h
abbrev pub relabelled_for : {R : Type 0} → ℕ → History R → History R → List (List ℕ) → List (List ℕ)
relabelled_for N h g cs = relabelled N (requested_in h) (requested_in g) cs

-- By next showing: where the second list names only records below N, every next showing of it occurs in the first too, and the
-- relabelled coins are the only ones that this describes; otherwise nothing moves
pub record ByNextShowing (R : Type 0) (N : ℕ) (Ds : List ℕ) (h g : History R) : Type 0 where
  pub occurs : all_below N (requested_in g) ≡ true → (r t : ℕ) → r < length Ds → Requested (requested_in h) t
      → (s : Showing) × NextShowing (numbers_in r (requested_in g)) t s × ((u : ℕ) × NextShowing (numbers_in r (requested_in h)) u s)
  pub they_are : all_below N (requested_in g) ≡ true → (cs : List (List ℕ)) → SameShape cs (coins_of h)
      → IsRelabelled R Ds h g cs (relabelled_for N h g cs)
  pub no_others : all_below N (requested_in g) ≡ true → (cs ys : List (List ℕ)) → SameShape cs (coins_of h)
      → IsRelabelled R Ds h g cs ys → ys ≡ relabelled_for N h g cs
  pub otherwise : all_below N (requested_in g) ≡ false → (cs : List (List ℕ)) → relabelled_for N h g cs ≡ cs

abbrev pub RelabelledByNextShowing : Type 0 → Type 0
RelabelledByNextShowing R = (N : ℕ) (Ds : List ℕ) (h g : History R) → SideBySide R N Ds h g → ByNextShowing R N Ds h g

-- Equal: with the relabelled coins of the whole lists, after each call every row's prescribed log is the same in both
abbrev pub LogsAreEqual : Type 0 → Type 0
LogsAreEqual R =
    (N : ℕ) (Ds : List ℕ) (h g : History R) → SideBySide R N Ds h g → AllCan N Ds g
    → coins_of g ≡ relabelled_for N h g (coins_of h)
    → (j r D : ℕ) → r < length Ds → prescribed_log D r (drop j h) ≡ prescribed_log D r (drop j g)

-- where the new leaf of turn t comes from in a row: what a run is given whose leaves are the turns themselves, each plus 1
abbrev pub marks : List (Option ℕ) → List ℕ
marks [] = []
marks (o ∷ ms) = suc (length ms) ∷ marks ms

abbrev pub origin : List (Option ℕ) → List (Option ℕ) → ℕ → ℕ
origin ms ns t = at_turn 0 (row_given ms ns (marks ms)) t - 1

-- in row r, from the records asked alone; itself where nothing moves
abbrev pub source : ℕ → ℕ → List (Option ℕ) → List (Option ℕ) → ℕ → ℕ
source N r ms ns t = cond (all_below N ns) (origin (numbers_in r ms) (numbers_in r ns) t) t

-- `from` is a permutation of the accepted requests: f gives row r at turn t the new leaf of turn `from t`, whatever the coins
pub record RowMoves (ms : List (Option ℕ)) (shape : List (List ℕ)) (f : List (List ℕ) → List (List ℕ)) (r : ℕ) (from : ℕ → ℕ) : Type 0 where
  pub to : ℕ → ℕ
  pub from_request : (t : ℕ) → Requested ms t → Requested ms (from t)
  pub to_request : (t : ℕ) → Requested ms t → Requested ms (to t)
  pub to_from : (t : ℕ) → Requested ms t → to (from t) ≡ t
  pub from_to : (t : ℕ) → Requested ms t → from (to t) ≡ t
  pub moves : (cs : List (List ℕ)) → SameShape cs shape → (t : ℕ) → Requested ms t
      → new_leaf r (at_turn [] (f cs) t) ≡ new_leaf r (at_turn [] cs (from t))

-- Moves only: for each row one permutation, from the lists and the accepted turns alone and the same for all coins, moves the new
-- leaves; every other coin stays
pub record LeavesMove (R : Type 0) (N : ℕ) (Ds : List ℕ) (h g : History R) : Type 0 where
  pub rows : (r : ℕ) → r < length Ds
      → RowMoves (requested_in h) (coins_of h) (relabelled_for N h g) r (source N r (requested_in h) (requested_in g))
  pub stays : (cs : List (List ℕ)) → SameShape cs (coins_of h) → (t i : ℕ)
      → (Requested (requested_in h) t → (r : ℕ) → r < length Ds → i ≢ request_share * r)
      → slice_index (at_turn [] (relabelled_for N h g cs) t) i ≡ slice_index (at_turn [] cs t) i

abbrev pub LeavesOnlyMove : Type 0 → Type 0
LeavesOnlyMove R = (N : ℕ) (Ds : List ℕ) (h g : History R) → SideBySide R N Ds h g → LeavesMove R N Ds h g

-- every coin fits a word
abbrev pub Words : List (List ℕ) → Type 0
Words cs = AllByRecursion (λ c. AllByRecursion (λ x. x < 2 ^ 32) c) cs

-- the coins of every accepted request and drain are leaves of their rows
abbrev pub RangeOf : List ℕ → Deed → List ℕ → Type 0
RangeOf Ds rest c = Unit {0}
RangeOf Ds (request n) c = Leaves request_share Ds c
RangeOf Ds drain c = Leaves drain_share Ds c
RangeOf Ds tear_off c = Unit {0}

abbrev pub EachTurn : (Deed → List ℕ → Type 0) → List Deed → List (List ℕ) → Type 0
EachTurn P [] cs = Unit {0}
EachTurn P (d ∷ ds) [] = Unit {0}
EachTurn P (d ∷ ds) (c ∷ cs) = P d c × EachTurn P ds cs

abbrev pub InRange : List ℕ → List Deed → List (List ℕ) → Type 0
InRange Ds ds cs = EachTurn (RangeOf Ds) ds cs

-- on the coins with P, f is a map to coins with P, no two become one, and every one is reached
pub record OneToOneOnto (P : List (List ℕ) → Type 0) (f : List (List ℕ) → List (List ℕ)) : Type 0 where
  pub into : (cs : List (List ℕ)) → P cs → P (f cs)
  pub one_to_one : (cs ds : List (List ℕ)) → P cs → P ds → f cs ≡ f ds → cs ≡ ds
  pub onto : (ds : List (List ℕ)) → P ds → (cs : List (List ℕ)) × P cs × (f cs ≡ ds)

-- One-to-one and onto: on all coins of the same shape, among those that are words, and among those below 2 ^ D of their row
pub record Relabelling (R : Type 0) (N : ℕ) (Ds : List ℕ) (h g : History R) : Type 0 where
  pub all_coins : OneToOneOnto (λ cs. SameShape cs (coins_of h)) (relabelled_for N h g)
  pub words : OneToOneOnto (λ cs. SameShape cs (coins_of h) × Words cs) (relabelled_for N h g)
  pub within_range : OneToOneOnto (λ cs. SameShape cs (coins_of h) × InRange Ds (deeds h) cs) (relabelled_for N h g)

abbrev pub RelabellingIsOneToOne : Type 0 → Type 0
RelabellingIsOneToOne R =
    (N : ℕ) (Ds : List ℕ) (h g : History R) → SideBySide R N Ds h g → Relabelling R N Ds h g

-- The lengths: the entries since the last tear-off follow from the sorts of the calls, the accepted turns and the depth alone
pub record Counted (R : Type 0) : Type 0 where
  pub entries : (D r : ℕ) (h : History R) → length (prescribed_log D r h) ≡ moves_since D (deeds h)
  pub alike : (D : ℕ) (h g : History R) → Alike (calls_of h) (calls_of g) → accepted_in h ≡ accepted_in g
      → moves_since D (deeds h) ≡ moves_since D (deeds g)
