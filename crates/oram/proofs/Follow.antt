-- The rows follow the history: what a request, a drain and a tear-off do to every row is what the history prescribes.
use Rattle.std.proofs.Common.{◌≡◌, ℕ, zero, suc, ◌+◌, ◌*◌, ◌/◌, ◌<◌, List, [], ◌∷◌, ◌++◌, length, get_or, drop, set, replicate, sym, refl, ap, ◌∙◌, subst, inl, inr, arith}
use Rattle.std.proofs.lemmas.List.{drop-drop, get_or-drop, get_or-set_other, get_or-set_same, length-set}
use Rattle.std.proofs.lemmas.Bool.{cases_eq, cond-false, cond-true, eq-eqb, ne_eqb}
use Rattle.tree.specs.Entries.{drain_entries, request_entries}
use Rattle.posmap.specs.Maps.{MapRow, OwnLeaves, divided, row_at, row_swapped, rows_drained, rows_swapped, rows_torn, rows_zeroed}
use Rattle.front.proofs.Zeroed.{torn_long, zeroed_long}
use Rattle.history.specs.Histories.{Deed, request, drain, tear_off, log_of, row_number, shown_in}
use Rattle.oram.specs.Calls.{rows_requested}

-- a row's log is the prescribed one, and each of its leaves the shown one, after these deeds under these coins
pub record Follows (r : ℕ) (row : MapRow) (ds : List Deed) (cs : List (List ℕ)) : Type 0 where
  pub log : row.log ≡ log_of row.depth r ds cs
  pub leaves : (m : ℕ) → m < length row.own → get_or row.own m 0 ≡ shown_in r ds cs m

-- all rows do
abbrev pub AllFollow : List MapRow → List Deed → List (List ℕ) → Type 0
AllFollow rows ds cs = (r : ℕ) → r < length rows → Follows r (row_at rows r) ds cs

-- divided before or after, the number is the same
number_divided : (r i : ℕ) → row_number r (i / 8) ≡ row_number r i / 8
number_divided zero i = refl
number_divided (suc r) i = ap (λ k. k / 8) (number_divided r i)

-- what each row of a map does in a swap
swapped_at : (rows : List MapRow) (i : ℕ) (coins : List ℕ) (r : ℕ) → r < length rows
    → row_at (rows_swapped rows i coins) r ≡ row_swapped (row_at rows r) (row_number (suc r) i) (drop (3 * r) coins)
swapped_at [] i coins r l = absurd (let n : ⊥ = omega arith in n)
swapped_at (row ∷ rows) i coins zero l = refl
swapped_at (row ∷ rows) i coins (suc r) l =
    let e : 3 + 3 * r ≡ 3 * suc r = omega arith in
    swapped_at rows (i / 8) (drop 3 coins) r (omega arith)
    ∙ (ap (λ j. row_swapped (row_at rows r) j (drop (3 * r) (drop 3 coins))) (number_divided (suc r) i)
    ∙ ap (row_swapped (row_at rows r) (row_number (suc (suc r)) i)) (drop-drop (3 * r) 3 coins ∙ ap (λ k. drop k coins) e))

-- what each row of an Oram does in a request
pub requested_at : (rows : List MapRow) (n : ℕ) (coins : List ℕ) (r : ℕ) → r < length rows
    → row_at (rows_requested rows n coins) r ≡ row_swapped (row_at rows r) (row_number r n) (drop (3 * r) coins)
requested_at [] n coins r l = absurd (let n : ⊥ = omega arith in n)
requested_at (row ∷ rows) n coins zero l = refl
requested_at (row ∷ rows) n coins (suc r) l =
    let e : 3 + 3 * r ≡ 3 * suc r = omega arith in
    swapped_at rows n (drop 3 coins) r (omega arith)
    ∙ ap (row_swapped (row_at rows r) (row_number (suc r) n)) (drop-drop (3 * r) 3 coins ∙ ap (λ k. drop k coins) e)

-- a row's share of the coins
share_at : (coins : List ℕ) (k i : ℕ) → get_or (drop k coins) i 0 ≡ get_or coins (k + i) 0
share_at coins k i = get_or-drop k coins i 0

first_share : (coins : List ℕ) (k : ℕ) → get_or (drop k coins) 0 0 ≡ get_or coins k 0
first_share coins k = let e : k + 0 ≡ k = omega arith in share_at coins k 0 ∙ ap (λ i. get_or coins i 0) e

-- one row, asked for its number
module _ (r : ℕ) (row : MapRow) (n : ℕ) (coins : List ℕ) (ds : List Deed) (cs : List (List ℕ)) (f : Follows r row ds cs)
    (l : row_number r n < length row.own) where
  abbrev j : ℕ
  j = row_number r n

  abbrev D : ℕ
  D = row.depth

  abbrev own : List ℕ
  own = row.own

  abbrev new : ℕ
  new = get_or (drop (3 * r) coins) 0 0

  abbrev a : ℕ
  a = get_or (drop (3 * r) coins) 1 0

  abbrev b : ℕ
  b = get_or (drop (3 * r) coins) 2 0

  abbrev before : List ℕ
  before = log_of D r ds cs

  asked_log : row.log ++ request_entries D (get_or own j 0) (a ∷ b ∷ []) ≡ log_of D r (request n ∷ ds) (coins ∷ cs)
  asked_log =
      ap (λ log. log ++ request_entries D (get_or own j 0) (a ∷ b ∷ [])) f.log
      ∙ (ap (λ m. before ++ request_entries D m (a ∷ b ∷ [])) (f.leaves j l)
      ∙ (ap (λ x. before ++ request_entries D (shown_in r ds cs j) (x ∷ b ∷ [])) (share_at coins (3 * r) 1)
      ∙ ap (λ x. before ++ request_entries D (shown_in r ds cs j) (get_or coins (3 * r + 1) 0 ∷ x ∷ [])) (share_at coins (3 * r) 2)))

  asked_leaf : (m : ℕ) → m < length own → get_or (set own j new) m 0 ≡ shown_in r (request n ∷ ds) (coins ∷ cs) m
  asked_leaf m k =
      elim (cases_eq m j) [
        | inl e ↦
            ap (λ i. get_or (set own j new) i 0) e
            ∙ (get_or-set_same own j new 0 l ∙ (first_share coins (3 * r) ∙ sym (cond-true _ _ _ (eq-eqb j m (sym e)))))
        | inr e ↦
            get_or-set_other own j m new 0 e ∙ (f.leaves m k ∙ sym (cond-false _ _ _ (ne_eqb j m (λ h. e (sym h)))))
      ]

  asked_follows : Follows r (row_swapped row j (drop (3 * r) coins)) (request n ∷ ds) (coins ∷ cs)
  asked_follows = record { log = asked_log; leaves = λ m k. asked_leaf m (rw (length-set own j new) at k) }

-- every row has a leaf for the number that it is asked
has_number_lem : (rows : List MapRow) (N n : ℕ) → OwnLeaves N rows → n < N → (r : ℕ) → r < length rows
    → row_number (suc r) n < length (row_at rows r).own
has_number_lem [] N n o l r k = absurd (let z : ⊥ = omega arith in z)
has_number_lem (row ∷ rows) N n o l zero k = let e = o.0 in omega arith
has_number_lem (row ∷ rows) N n o l (suc r) k =
    let h : n / 8 < divided N = omega arith in
    rw (← number_divided (suc r) n) (has_number_lem rows (divided N) (n / 8) o.1 h r (omega arith))

-- as many rows as before
swapped_long : (rows : List MapRow) (i : ℕ) (coins : List ℕ) → length (rows_swapped rows i coins) ≡ length rows
swapped_long [] i coins = refl
swapped_long (row ∷ rows) i coins = ap suc (swapped_long rows (i / 8) (drop 3 coins))

pub requested_long : (rows : List MapRow) (n : ℕ) (coins : List ℕ) → length (rows_requested rows n coins) ≡ length rows
requested_long [] n coins = refl
requested_long (row ∷ rows) n coins = ap suc (swapped_long rows n (drop 3 coins))

pub drained_long : (rows : List MapRow) (coins : List ℕ) → length (rows_drained rows coins) ≡ length rows
drained_long [] coins = refl
drained_long (row ∷ rows) coins = ap suc (drained_long rows (drop 1 coins))

-- row 0 for the record, each further row for its number
all_numbers : (row : MapRow) (rows : List MapRow) (n : ℕ) → OwnLeaves (length row.own) rows → n < length row.own
    → (r : ℕ) → r < length (row ∷ rows) → row_number r n < length (row_at (row ∷ rows) r).own
all_numbers row rows n o l zero k = l
all_numbers row rows n o l (suc r) k = has_number_lem rows (length row.own) n o l r (omega arith)

-- a request
pub request_follows : (row : MapRow) (rows : List MapRow) (n : ℕ) (coins : List ℕ) (ds : List Deed) (cs : List (List ℕ))
    → OwnLeaves (length row.own) rows → n < length row.own → AllFollow (row ∷ rows) ds cs
    → AllFollow (rows_requested (row ∷ rows) n coins) (request n ∷ ds) (coins ∷ cs)
request_follows row rows n coins ds cs o l f r k =
    let k' : r < length (row ∷ rows) = rw (requested_long (row ∷ rows) n coins) at k in
    let P : MapRow → Type 0 = λ x. Follows r x (request n ∷ ds) (coins ∷ cs) in
    subst P (sym (requested_at (row ∷ rows) n coins r k'))
    (asked_follows r (row_at (row ∷ rows) r) n coins ds cs (f r k') (all_numbers row rows n o l r k'))

-- a row with other entries in its log
abbrev with_log : MapRow → List ℕ → MapRow
with_log row log = record { depth = row.depth; own = row.own; span = row.span; log = log }

-- a drain
drained_at : (rows : List MapRow) (coins : List ℕ) (r : ℕ) → r < length rows
    → row_at (rows_drained rows coins) r ≡ with_log (row_at rows r) ((row_at rows r).log ++ drain_entries (row_at rows r).depth (get_or coins (1 * r) 0))
drained_at [] coins r l = absurd (let n : ⊥ = omega arith in n)
drained_at (row ∷ rows) coins zero l = refl
drained_at (row ∷ rows) coins (suc r) l =
    let e : 1 + 1 * r ≡ 1 * suc r = omega arith in
    drained_at rows (drop 1 coins) r (omega arith)
    ∙ ap (λ m. with_log (row_at rows r) ((row_at rows r).log ++ drain_entries (row_at rows r).depth m))
    (share_at coins 1 (1 * r) ∙ ap (λ i. get_or coins i 0) e)

pub drain_follows : (rows : List MapRow) (coins : List ℕ) (ds : List Deed) (cs : List (List ℕ)) → AllFollow rows ds cs
    → AllFollow (rows_drained rows coins) (drain ∷ ds) (coins ∷ cs)
drain_follows rows coins ds cs f r k =
    let k' : r < length rows = rw (drained_long rows coins) at k in
    let P : MapRow → Type 0 = λ x. Follows r x (drain ∷ ds) (coins ∷ cs) in
    let D = (row_at rows r).depth in
    subst P (sym (drained_at rows coins r k'))
    (record { log = ap (λ log. log ++ drain_entries D (get_or coins (1 * r) 0)) (f r k').log; leaves = (f r k').leaves })

-- a tear-off
torn_at : (rows : List MapRow) (r : ℕ) → r < length rows → row_at (rows_torn rows) r ≡ with_log (row_at rows r) []
torn_at [] r l = absurd (let n : ⊥ = omega arith in n)
torn_at (row ∷ rows) zero l = refl
torn_at (row ∷ rows) (suc r) l = torn_at rows r (omega arith)

pub tear_follows : (rows : List MapRow) (coins : List ℕ) (ds : List Deed) (cs : List (List ℕ)) → AllFollow rows ds cs
    → AllFollow (rows_torn rows) (tear_off ∷ ds) (coins ∷ cs)
tear_follows rows coins ds cs f r k =
    let k' : r < length rows = rw (torn_long rows) at k in
    let P : MapRow → Type 0 = λ x. Follows r x (tear_off ∷ ds) (coins ∷ cs) in
    subst P (sym (torn_at rows r k')) (record { log = refl; leaves = (f r k').leaves })

get_d_zeros : (n i : ℕ) → get_or {A = ℕ} (replicate n 0) i 0 ≡ 0
get_d_zeros zero i = refl
get_d_zeros (suc n) zero = refl
get_d_zeros (suc n) (suc i) = get_d_zeros n i

-- just begun, nothing has been done
zeroed_at : (rows : List MapRow) (r : ℕ) → r < length rows
    → row_at (rows_zeroed rows) r
    ≡ record { depth = (row_at rows r).depth; own = replicate (length (row_at rows r).own) 0; span = (row_at rows r).span; log = [] }
zeroed_at [] r l = absurd (let n : ⊥ = omega arith in n)
zeroed_at (row ∷ rows) zero l = refl
zeroed_at (row ∷ rows) (suc r) l = zeroed_at rows r (omega arith)

pub begun_follows : (rows : List MapRow) → AllFollow (rows_zeroed rows) [] []
begun_follows rows r k =
    let k' : r < length rows = rw (zeroed_long rows) at k in
    let P : MapRow → Type 0 = λ x. Follows r x [] [] in
    subst P (sym (zeroed_at rows r k')) (record { log = refl; leaves = λ m l. get_d_zeros (length (row_at rows r).own) m })
