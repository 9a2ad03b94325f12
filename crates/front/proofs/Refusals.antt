-- How the refusals of a row and of the map below it are one refusal of all their rows.
use Rattle.std.proofs.Common.{◌≡◌, ℕ, suc, ◌+◌, ◌*◌, ◌^◌, ◌<◌, ◌≤◌, min, Bool, true, false, cond, not, ◌&&◌, eqb, ltb, leb, List, [], ◌∷◌, length, get_or, drop, Some, None, Option, sym, refl, ap, ◌∙◌, inl, inr, arith}
use Rattle.std.specs.Option.{option_map}
use Rattle.std.proofs.lemmas.Bool.{and_parts, cases_eq, eq-eqb, le-leb, lt-ltb, ltb-true}
use Rattle.std.proofs.lemmas.Nat.{pow_below}
use Rattle.std.proofs.lemmas.List.{length-drop}
use Rattle.tree.specs.declared.block.Block.{Block}
use Rattle.tree.specs.Blocks.{capacity}
use Rattle.tree.specs.Entries.{drain_moves, request_moves}
use Rattle.tree.specs.Paths.{is_depth}
use Rattle.posmap.specs.Maps.{Card, MapRow, coins_below, coins_per_drain, coins_per_request, leaf_refusal, log_refusal, naming, or_else, stopped, unless, widest_leaf}
use Rattle.front.specs.Fronts.{deeper, drain_from, first_card, front_full, front_rows, own, raised, request_from}

-- the lowest row with a coin of its share not below 2 ^ D, and the lowest whose log is too full
abbrev missing : ℕ → Bool → Option ℕ → Option ℕ
missing r true o = o
missing r false o = Some r

abbrev leaf_row : ℕ → ℕ → List MapRow → List ℕ → Option ℕ
leaf_row share r [] coins = None
leaf_row share r (row ∷ rows) coins =
    missing r (coins_below row.depth share coins) (leaf_row share (suc r) rows (drop share coins))

abbrev log_row : (ℕ → ℕ) → ℕ → List MapRow → Option ℕ
log_row moves r [] = None
log_row moves r (row ∷ rows) =
    missing r (leb (length row.log + moves row.depth) row.span) (log_row moves (suc r) rows)

missing_named : (n r : ℕ) (b : Bool) (o : Option ℕ)
    → or_else (unless b (record { number = n; row = stopped r })) (naming n o) ≡ naming n (missing r b o)
missing_named n r true o = refl
missing_named n r false o = refl

leaf_named : (share r : ℕ) (rows : List MapRow) (coins : List ℕ)
    → leaf_refusal share r rows coins ≡ naming 6 (leaf_row share r rows coins)
leaf_named share r [] coins = refl
leaf_named share r (row ∷ rows) coins =
    ap (or_else _) (leaf_named share (suc r) rows (drop share coins))
    ∙ missing_named 6 r (coins_below row.depth share coins) (leaf_row share (suc r) rows (drop share coins))

log_named : (moves : ℕ → ℕ) (r : ℕ) (rows : List MapRow) → log_refusal moves r rows ≡ naming 7 (log_row moves r rows)
log_named moves r [] = refl
log_named moves r (row ∷ rows) =
    ap (or_else _) (log_named moves (suc r) rows)
    ∙ missing_named 7 r (leb (length row.log + moves row.depth) row.span) (log_row moves (suc r) rows)

-- counted from the next row on, every row is one deeper
missing_deeper : (r : ℕ) (b : Bool) (o : Option ℕ) → missing (suc r) b (deeper o) ≡ deeper (missing r b o)
missing_deeper r true o = refl
missing_deeper r false o = refl

leaf_deeper : (share r : ℕ) (rows : List MapRow) (coins : List ℕ)
    → leaf_row share (suc r) rows coins ≡ deeper (leaf_row share r rows coins)
leaf_deeper share r [] coins = refl
leaf_deeper share r (row ∷ rows) coins =
    ap (missing (suc r) (coins_below row.depth share coins)) (leaf_deeper share (suc r) rows (drop share coins))
    ∙ missing_deeper r (coins_below row.depth share coins) (leaf_row share (suc r) rows (drop share coins))

log_deeper : (moves : ℕ → ℕ) (r : ℕ) (rows : List MapRow) → log_row moves (suc r) rows ≡ deeper (log_row moves r rows)
log_deeper moves r [] = refl
log_deeper moves r (row ∷ rows) =
    ap (missing (suc r) (leb (length row.log + moves row.depth) row.span)) (log_deeper moves (suc r) rows)
    ∙ missing_deeper r (leb (length row.log + moves row.depth) row.span) (log_row moves (suc r) rows)

-- a refusal that names a deeper row is the refusal raised
raised_row : (r : ℕ) → stopped (suc r) ≡ min 255 (stopped r + 1)
raised_row r = omega arith

raised-named : (n r : ℕ) → naming n (Some (suc r)) ≡ option_map raised (naming n (Some r))
raised-named n r = ap (λ x. Some (record { number = n; row = x })) (raised_row r)

-- The refusals by their tests alone. Below: from the new leaf on, from the logs on.
abbrev from8 : Option ℕ → Option Card
from8 full = naming 8 full

abbrev from7 : Option ℕ → Option ℕ → Option Card
from7 logs full = or_else (naming 7 logs) (from8 full)

abbrev from6 : Bool → Option ℕ → Option ℕ → Option ℕ → Option Card
from6 l6 coins logs full = or_else (unless l6 (own 6)) (or_else (naming 6 coins) (from7 logs full))

-- the row's own refusal, in the same way
abbrev own7 : Bool → Bool → Option Card
own7 t7 t8 = or_else (unless t7 (own 7)) (unless t8 (own 8))

abbrev own6 : Bool → Bool → Bool → Option Card
own6 t6 t7 t8 = or_else (unless t6 (own 6)) (own7 t7 t8)

-- and the refusal of the whole
abbrev whole8 : Bool → Option ℕ → Option Card
whole8 q full = naming 8 (cond q (Some 0) (deeper full))

abbrev whole7 : Bool → Bool → Option ℕ → Option ℕ → Option Card
whole7 t7 q logs full = or_else (or_else (unless t7 (own 7)) (naming 7 (deeper logs))) (whole8 q full)

abbrev whole6 : Bool → Bool → Bool → Option ℕ → Option ℕ → Option ℕ → Option Card
whole6 t6 t7 q coins logs full = or_else (or_else (unless t6 (own 6)) (naming 6 (deeper coins))) (whole7 t7 q logs full)

-- an own refusal whose number is not larger comes first
late7 : (logs full : Option ℕ) → first_card (Some (own 7)) (from7 logs full) ≡ Some (own 7)
late7 (Some r) full = refl
late7 None (Some r) = refl
late7 None None = refl

late6 : (coins logs full : Option ℕ) → first_card (Some (own 6)) (or_else (naming 6 coins) (from7 logs full)) ≡ Some (own 6)
late6 (Some r) logs full = refl
late6 None (Some r) full = refl
late6 None None (Some r) = refl
late6 None None None = refl

late6a : (l6 : Bool) (coins logs full : Option ℕ) → first_card (Some (own 6)) (from6 l6 coins logs full) ≡ Some (own 6)
late6a false coins logs full = refl
late6a true coins logs full = late6 coins logs full

-- from the last test to the first
at8 : (q : Bool) (full : Option ℕ) → whole8 q full ≡ first_card (unless (not q) (own 8)) (from8 full)
at8 true None = refl
at8 true (Some r) = refl
at8 false None = refl
at8 false (Some r) = raised-named 8 r

at7 : (t7 q : Bool) (logs full : Option ℕ) → whole7 t7 q logs full ≡ first_card (own7 t7 (not q)) (from7 logs full)
at7 false q logs full = sym (late7 logs full)
at7 true q None full = at8 q full
at7 true true (Some r) full = raised-named 7 r
at7 true false (Some r) full = raised-named 7 r

at6 : (t6 t7 q : Bool) (coins logs full : Option ℕ)
    → whole6 t6 t7 q coins logs full ≡ first_card (own6 t6 t7 (not q)) (or_else (naming 6 coins) (from7 logs full))
at6 false t7 q coins logs full = sym (late6 coins logs full)
at6 true t7 q None logs full = at7 t7 q logs full
at6 true false q (Some r) logs full = raised-named 6 r
at6 true true true (Some r) logs full = raised-named 6 r
at6 true true false (Some r) logs full = raised-named 6 r

-- a fit new leaf, and then the coins
at6a : (t6a t6 t7 q l6 : Bool) (coins logs full : Option ℕ) → (t6 ≡ true → l6 ≡ true)
    → or_else (unless t6a (own 6)) (whole6 t6 t7 q coins logs full)
    ≡ first_card (own6 (t6a && t6) t7 (not q)) (from6 l6 coins logs full)
at6a false t6 t7 q l6 coins logs full h = sym (late6a l6 coins logs full)
at6a true false t7 q l6 coins logs full h = sym (late6a l6 coins logs full)
at6a true true t7 q l6 coins logs full h =
    at6 true t7 q coins logs full ∙ ap (λ b. first_card (own6 true t7 (not q)) (from6 b coins logs full)) (sym (h refl))

-- with fit coins the new leaf that goes below is not too wide
narrow_pow : (D : ℕ) → D ≤ 12 → 2 ^ D ≤ 4096
narrow_pow D le =
    elim (cases_eq D 12) [
      | inl e ↦ rw e (omega arith)
      | inr n ↦ let h : D < 12 = omega arith in let b = pow_below D 12 h in omega arith
    ]

first_coin : (D : ℕ) (coins : List ℕ) → 3 ≤ length coins → coins_below D 3 coins ≡ true → get_or coins 0 0 < 2 ^ D
first_coin D [] l e = absurd (let n : ⊥ = omega arith in n)
first_coin D (m ∷ ms) l e = ltb-true m (2 ^ D) (and_parts (ltb m (2 ^ D)) (coins_below D 2 ms) e).0

narrow_coin : (D : ℕ) (coins : List ℕ) → D ≤ 12 → 3 ≤ length coins → coins_below D 3 coins ≡ true → get_or coins 0 0 ≤ widest_leaf
narrow_coin D coins le l e = let a = first_coin D coins l e in let b = narrow_pow D le in omega arith

or-none : {X : Type 0} (o : Option X) → or_else o None ≡ o
or-none None = refl
or-none (Some x) = refl

-- all tests before the coins' leaves have passed: then row and map refuse a request as all their rows do
pub request_refusal_lem : (leaves : List ℕ) (rows : List MapRow) (unfit full : Option ℕ) (n D span : ℕ) (log : List ℕ) (queue : List Block)
    (coins : List ℕ) → is_depth D ≡ true → D ≤ 12 → unfit ≡ None → n < length leaves → length coins ≡ coins_per_request * suc (length rows)
    → request_from leaves rows unfit full n D span log (length queue) coins
    ≡ or_else (leaf_refusal coins_per_request 0 (front_rows D leaves span log rows) coins)
    (or_else (log_refusal request_moves 0 (front_rows D leaves span log rows)) (naming 8 (front_full queue full)))
request_refusal_lem leaves rows unfit full n D span log queue coins depth shallow fit number long =
    let many : 3 ≤ length coins = omega arith in
    let rest : length (drop 3 coins) ≡ 3 * length rows = omega (arith, length-drop 3 coins) in
    let t6 = coins_below D 3 coins in
    let t7 = leb (length log + request_moves D) span in
    let q = eqb (length queue) capacity in
    let leafs = leaf_row 3 0 rows (drop 3 coins) in
    let logs = log_row request_moves 0 rows in
    let l6 = leb (get_or coins 0 0) widest_leaf in
    rw (leaf_named 3 1 rows (drop 3 coins), log_named request_moves 1 rows, leaf_deeper 3 0 rows (drop 3 coins), log_deeper request_moves 0 rows)
    (rw (leaf_named 3 0 rows (drop 3 coins), log_named request_moves 0 rows, fit, depth, lt-ltb n (length leaves) number, eq-eqb (length (drop 3 coins)) (3 * length rows) rest, le-leb 3 (length coins) many)
    (sym (at6a true t6 t7 q l6 leafs logs full (λ t. le-leb _ _ (narrow_coin D coins shallow many t)))))

pub drain_refusal_lem : (leaves : List ℕ) (rows : List MapRow) (unfit : Option ℕ) (D span : ℕ) (log coins : List ℕ)
    → is_depth D ≡ true → unfit ≡ None → length coins ≡ coins_per_drain * suc (length rows)
    → drain_from rows unfit D span log coins
    ≡ or_else (leaf_refusal coins_per_drain 0 (front_rows D leaves span log rows) coins) (log_refusal drain_moves 0 (front_rows D leaves span log rows))
drain_refusal_lem leaves rows unfit D span log coins depth fit long =
    let many : 1 ≤ length coins = omega arith in
    let rest : length (drop 1 coins) ≡ 1 * length rows = omega (arith, length-drop 1 coins) in
    let leafs = leaf_row 1 0 rows (drop 1 coins) in
    let logs = log_row drain_moves 0 rows in
    rw (leaf_named 1 1 rows (drop 1 coins), log_named drain_moves 1 rows, leaf_deeper 1 0 rows (drop 1 coins), log_deeper drain_moves 0 rows)
    (rw (leaf_named 1 0 rows (drop 1 coins), log_named drain_moves 0 rows, fit, depth, eq-eqb (length (drop 1 coins)) (1 * length rows) rest, le-leb 1 (length coins) many)
    (sym (simp or-none at (at6 (coins_below D 1 coins) (leb (length log + drain_moves D) span) false leafs logs None))))
