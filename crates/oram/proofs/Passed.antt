-- What a call tells of all rows that was not refused.
use Rattle.std.proofs.Common.{◌≡◌, ℕ, zero, suc, ◌+◌, ◌*◌, ◌^◌, ◌<◌, ◌≤◌, true, eqb, ltb, leb, List, [], ◌∷◌, map, length, get_or, drop, None, Option, sym, ap, ◌∙◌, mul-zero, mul-suc, arith}
use Rattle.std.proofs.lemmas.List.{get_or-drop, length-drop, length-map}
use Rattle.std.proofs.lemmas.Bool.{and_parts, eqb-true, ltb-true}
use Rattle.tree.specs.Entries.{drain_moves, request_moves}
use Rattle.posmap.specs.Maps.{MapRow, coins_below, coins_per_drain, coins_per_request, drain_refusal, leaf_refusal, log_refusal, naming, stopped, swap_refusal, unless}
use Rattle.front.proofs.Fits.{none_named, or-none, unless-none}
use Rattle.history.specs.Histories.{Leaves}

-- the share of one row
coin_below : (D k : ℕ) (coins : List ℕ) (i : ℕ) → coins_below D k coins ≡ true → k ≤ length coins → i < k → get_or coins i 0 < 2 ^ D
coin_below D zero coins i e l h = absurd (let n : ⊥ = omega arith in n)
coin_below D (suc k) [] i e l h = absurd (let n : ⊥ = omega arith in n)
coin_below D (suc k) (m ∷ ms) zero e l h = ltb-true m (2 ^ D) (and_parts (ltb m (2 ^ D)) (coins_below D k ms) e).0
coin_below D (suc k) (m ∷ ms) (suc i) e l h =
    coin_below D k ms i (and_parts (ltb m (2 ^ D)) (coins_below D k ms) e).1 (omega arith) (omega arith)

-- no row with a coin that is no leaf: every coin is one
each_coin : (share q : ℕ) (rows : List MapRow) (coins : List ℕ) → length coins ≡ share * length rows
    → None ≡ leaf_refusal share q rows coins → (r i : ℕ) → r < length (map (λ row. row.depth) rows) → i < share
    → get_or coins (share * r + i) 0 < 2 ^ get_or (map (λ row. row.depth) rows) r 0
each_coin share q [] coins long e r i k h = absurd (let n : ⊥ = omega arith in n)
each_coin share q (row ∷ rows) coins long e zero i k h =
    let p = or-none (unless (coins_below row.depth share coins) (record { number = 6; row = stopped q }))
    (leaf_refusal share (suc q) rows (drop share coins)) e in
    let m = mul-suc share (length rows) in
    let z : share * 0 + i ≡ i = omega (arith, mul-zero share) in
    rw z (coin_below row.depth share coins i (unless-none (coins_below row.depth share coins) _ p.0) (omega arith) h)
each_coin share q (row ∷ rows) coins long e (suc r) i k h =
    let p = or-none (unless (coins_below row.depth share coins) (record { number = 6; row = stopped q }))
    (leaf_refusal share (suc q) rows (drop share coins)) e in
    let m = mul-suc share (length rows) in
    let z : share * suc r + i ≡ share + (share * r + i) = omega (arith, mul-suc share r) in
    let l : length (drop share coins) ≡ share * length rows = omega (arith, length-drop share coins) in
    rw (z, ← (get_or-drop share coins (share * r + i) 0)) (each_coin share (suc q) rows (drop share coins) l p.1 r i (omega arith) h)

pub coins_right : (share q : ℕ) (rows : List MapRow) (coins : List ℕ) → length coins ≡ share * length rows
    → None ≡ leaf_refusal share q rows coins → Leaves share (map (λ row. row.depth) rows) coins
coins_right share q rows coins long e = (
  long ∙ ap (λ n. share * n) (sym (length-map rows (λ row. row.depth))),
  each_coin share q rows coins long e,
)

-- what an accepted swap has
pub record SwapPassed (leaves : List ℕ) (rows : List MapRow) (unfit full : Option ℕ) (n : ℕ) (coins : List ℕ) : Type 0 where
  pub fit : unfit ≡ None
  pub number : n < length leaves
  pub right : Leaves coins_per_request (map (λ row. row.depth) rows) coins
  pub free : None ≡ log_refusal request_moves 0 rows
  pub room : full ≡ None

pub swap_passed : (leaves : List ℕ) (rows : List MapRow) (unfit full : Option ℕ) (n new : ℕ) (coins : List ℕ)
    → None ≡ swap_refusal leaves rows unfit full n new coins → SwapPassed leaves rows unfit full n coins
swap_passed leaves rows unfit full n new coins e =
    let t1 = or-none (naming 1 unfit) _ e in
    let t2 = or-none (unless (ltb n (length leaves)) _) _ t1.1 in
    let t5 = or-none (unless (eqb (length coins) (3 * length rows)) _) _ t2.1 in
    let t6 = or-none (unless (leb new 4095) _) _ t5.1 in
    let t6a = or-none (leaf_refusal 3 0 rows coins) _ t6.1 in
    let t7 = or-none (log_refusal request_moves 0 rows) _ t6a.1 in
    let long : length coins ≡ 3 * length rows = eqb-true _ _ (unless-none _ _ t5.0) in
    record {
      fit = none_named 1 unfit t1.0;
      number = ltb-true n (length leaves) (unless-none _ _ t2.0);
      right = coins_right 3 0 rows coins long t6a.0;
      free = t7.0;
      room = none_named 8 full t7.1;
    }

-- what an accepted drain has
pub record DrainPassed (rows : List MapRow) (unfit : Option ℕ) (coins : List ℕ) : Type 0 where
  pub fit : unfit ≡ None
  pub right : Leaves coins_per_drain (map (λ row. row.depth) rows) coins
  pub free : None ≡ log_refusal drain_moves 0 rows

pub drain_passed : (rows : List MapRow) (unfit : Option ℕ) (coins : List ℕ) → None ≡ drain_refusal rows unfit coins
    → DrainPassed rows unfit coins
drain_passed rows unfit coins e =
    let t1 = or-none (naming 1 unfit) _ e in
    let t5 = or-none (unless (eqb (length coins) (1 * length rows)) _) _ t1.1 in
    let t6 = or-none (leaf_refusal 1 0 rows coins) _ t5.1 in
    let long : length coins ≡ 1 * length rows = eqb-true _ _ (unless-none _ _ t5.0) in
    record { fit = none_named 1 unfit t1.0; right = coins_right 1 0 rows coins long t6.0; free = t6.1 }
