-- Laws of the paths from the root to a leaf, for a tree of any depth.
use Rattle.std.proofs.Common.{◌≡◌, ℕ, zero, suc, ◌+◌, ◌-◌, ◌*◌, ◌/◌, ◌^◌, ◌<◌, ◌≤◌, min, true, cond, eqb, leb, ltb, ◌⊎◌, sym, ap, ◌∙◌, subst, IfNone, IfSome, MatchOption, Some, None, Option, inl, inr, div-one, arith, pow_mono}
use native.Mathlib.Nat.{two-pow-succ, div-lt_self, div-eq_of_lt, mul-add-div_right}
use lib.Bits.{bit_xor, and_le_l, and_le_r, xor_self, xor_add_and, xor_lt, xor_shr}
use lib.Count.{count_leading_zeros}
use Rattle.std.proofs.lemmas.Nat.{pow_pos, pow-add, pow_below, shr-shr, shr_below, le-div, leading_length}
use Rattle.std.proofs.lemmas.Bool.{and_parts, cases_lt, cases_order, eq-eqb, leb-true, ltb-true, ne_eqb, cond-true, cond-false}
use Rattle.tree.specs.Paths.{path, is_depth, is_leaf, AgreeOn, OnLayer, shared_to, shared_buckets, PathLaws}

-- the power of a whole is the product of those of its parts
pow_parts : (d D : ℕ) → d ≤ D → 2 ^ d * 2 ^ (D - d) ≡ 2 ^ D
pow_parts d D h = let e : d + (D - d) ≡ D = omega arith in sym (pow-add 2 d (D - d)) ∙ ap (λ x. 2 ^ x) e

-- from a layer to one above it, by one division
pub path_up : (D m d e : ℕ) → e ≤ d → d ≤ D → path D m e ≡ path D m d / 2 ^ (d - e)
path_up D m d e h k =
    let s : D - e ≡ (D - d) + (d - e) = omega arith in
    ap (λ x. (2 ^ D + m) / 2 ^ x) s ∙ sym (shr-shr (2 ^ D + m) (D - d) (d - e))

pub path_leaf : (D m : ℕ) → path D m D ≡ 2 ^ D + m
path_leaf D m = let e : D - D ≡ 0 = omega arith in ap (λ x. (2 ^ D + m) / 2 ^ x) e ∙ div-one (2 ^ D + m)

pub path_half : (D m d : ℕ) → d < D → path D m d ≡ path D m (suc d) / 2
path_half D m d h =
    let e : suc d - d ≡ 1 = omega arith in
    path_up D m (suc d) d (omega arith) (omega arith) ∙ ap (λ x. path D m (suc d) / 2 ^ x) e

pub path_low : (D m d : ℕ) → d ≤ D → 2 ^ d ≤ path D m d
path_low D m d h =
    le-div (2 ^ d) (2 ^ D + m) (2 ^ (D - d)) (pow_pos (D - d)) (omega (arith, pow_parts d D h))

pub path_high : (D m d : ℕ) → m < 2 ^ D → d ≤ D → path D m d < 2 ^ suc d
path_high D m d l h =
    let e : suc d + (D - d) ≡ suc D = omega arith in
    let p : 2 ^ (suc d + (D - d)) ≡ 2 ^ suc D = ap (λ x. 2 ^ x) e in
    shr_below (2 ^ D + m) (suc d) (D - d) (omega (arith, p, two-pow-succ D))

pub path_positive : (D m d : ℕ) → 1 ≤ path D m d
path_positive D m d =
    let p : 2 ^ (D - d) ≤ 2 ^ D = pow_mono (omega arith) in
    le-div 1 (2 ^ D + m) (2 ^ (D - d)) (pow_pos (D - d)) (omega arith)

pub path_root : (D m : ℕ) → m < 2 ^ D → path D m 0 ≡ 1
path_root D m h = omega (arith, path_positive D m 0, path_high D m 0 h (omega arith))

pub path_rises : (D m d e : ℕ) → d < e → e ≤ D → path D m d < path D m e
path_rises D m d e h k =
    let two : 2 ^ 0 < 2 ^ (e - d) = pow_below 0 (e - d) (omega arith) in
    let less : path D m e / 2 ^ (e - d) < path D m e = div-lt_self (path_positive D m e) (omega arith) in
    omega (arith, path_up D m e d (omega arith) k)

-- where two paths agree on a layer, they agree on each above it
pub path_agree_up : (D m n d e : ℕ) → e ≤ d → d ≤ D → path D m d ≡ path D n d → path D m e ≡ path D n e
path_agree_up D m n d e h k s = path_up D m d e h k ∙ ap (λ x. x / 2 ^ (d - e)) s ∙ sym (path_up D n d e h k)

-- a number is twice its half, or one more
halved : (n v : ℕ) → v ≡ n / 2 → (n ≡ 2 * v) ⊎ (n ≡ 2 * v + 1)
halved n v e = elim (cases_lt (2 * v) n) [ inl l ↦ inr (omega arith) | inr l ↦ inl (omega arith) ]

pub path_child : (D m d : ℕ) → d < D → (path D m (suc d) ≡ 2 * path D m d) ⊎ (path D m (suc d) ≡ 2 * path D m d + 1)
path_child D m d h = halved (path D m (suc d)) (path D m d) (path_half D m d h)

-- a layer on which two buckets agree counts for one, any other for none
counted : (a b : ℕ) → a ≡ b → ◌≡◌ {A = ℕ} (cond (eqb a b) 1 0) 1
counted a b e = cond-true {A = ℕ} (eqb a b) 1 0 (eq-eqb a b e)

passed : (a b : ℕ) → (a ≡ b → ⊥) → ◌≡◌ {A = ℕ} (cond (eqb a b) 1 0) 0
passed a b e = cond-false {A = ℕ} (eqb a b) 1 0 (ne_eqb a b e)

-- down to layer j the paths share all the buckets that they share, or all that there are so far
shared_down : (D m n k : ℕ) → AgreeOn D m n k → (j : ℕ) → j ≤ D → shared_to D m n j ≡ min k (suc j)
shared_down D m n k a zero h = omega (arith, a.0, counted (path D m 0) (path D n 0) (a.2 0 a.0))
shared_down D m n k a (suc j) h =
    let before = shared_down D m n k a j (omega arith) in
    elim (cases_lt (suc j) k) [
      | inl l ↦ omega (arith, before, counted (path D m (suc j)) (path D n (suc j)) (a.2 (suc j) l))
      | inr l ↦ omega (arith, before, passed (path D m (suc j)) (path D n (suc j)) (a.3 (suc j) l h))
    ]

pub shared_agree : (D m n k : ℕ) → AgreeOn D m n k → k ≡ shared_buckets D m n
shared_agree D m n k a = omega (arith, a.1, shared_down D m n k a D (omega arith))

-- a layer ends before the next begins
not_below : (d e v : ℕ) → v < 2 ^ suc d → 2 ^ e ≤ v → d < e → ⊥
not_below d e v h l k = let p : 2 ^ suc d ≤ 2 ^ e = pow_mono k in omega arith

layer_unique : (d e v : ℕ) → OnLayer d v → OnLayer e v → d ≡ e
layer_unique d e v p q =
    elim (cases_order d e) [
      | inl s ↦ s
      | inr o ↦ elim o [
        | inl l ↦ absurd (not_below d e v p.1 q.0 l)
        | inr l ↦ absurd (not_below e d v q.1 p.0 l)
      ]
    ]

-- numbers that differ in no bit are equal
xor-none : (a b : ℕ) → bit_xor a b ≡ 0 → a ≡ b
xor-none a b e = omega (arith, xor_add_and a b, and_le_l a b, and_le_r a b)

-- a path's bucket, by the bits of its leaf alone
path_bits : (D m d : ℕ) → d ≤ D → path D m d ≡ 2 ^ d + m / 2 ^ (D - d)
path_bits D m d h =
    ap (λ x. (x + m) / 2 ^ (D - d)) (sym (pow_parts d D h)) ∙ mul-add-div_right (pow_pos (D - d)) (2 ^ d) m

-- the bits from the k-th on agree, unless the highest bit that differs is among them
bits_agree : (m n k : ℕ) → bit_xor m n < 2 ^ k → m / 2 ^ k ≡ n / 2 ^ k
bits_agree m n k h = xor-none (m / 2 ^ k) (n / 2 ^ k) (sym (xor_shr m n k) ∙ div-eq_of_lt h)

bits_differ : (m n k : ℕ) → 2 ^ k ≤ bit_xor m n → m / 2 ^ k ≡ n / 2 ^ k → ⊥
bits_differ m n k h e =
    let none = xor_shr m n k ∙ ap (λ x. bit_xor x (n / 2 ^ k)) e ∙ xor_self (n / 2 ^ k) in
    let some = le-div 1 (bit_xor m n) (2 ^ k) (pow_pos k) (omega arith) in
    omega (arith, none, some)

-- where leaves differ in their lowest p bits, and in the p-th, their paths are apart on the lowest p layers
agree_on : (D m n p : ℕ) → p ≤ D → bit_xor m n < 2 ^ p → 2 ^ p ≤ 2 * bit_xor m n + 1 → AgreeOn D m n (D + 1 - p)
agree_on D m n p b h l = (omega arith, omega arith, same, other)
  where
    same : (d : ℕ) → d < D + 1 - p → path D m d ≡ path D n d
    same d k =
        let wide : 2 ^ p ≤ 2 ^ (D - d) = pow_mono (omega arith) in
        omega (arith, bits_agree m n (D - d) (omega arith), path_bits D m d (omega arith), path_bits D n d (omega arith))

    other : (d : ℕ) → D + 1 - p ≤ d → d ≤ D → path D m d ≡ path D n d → ⊥
    other d k j s =
        let wide : 2 ^ suc (D - d) ≤ 2 ^ p = pow_mono (omega arith) in
        let high : 2 ^ (D - d) ≤ bit_xor m n = omega (arith, two-pow-succ (D - d)) in
        bits_differ m n (D - d) high (omega (arith, path_bits D m d j, path_bits D n d j))

-- a number below 2 ^ D has at most D bits
bits_few : (x p D : ℕ) → x < 2 ^ D → 2 ^ p ≤ 2 * x + 1 → p ≤ D
bits_few x p D h l = elim (cases_lt D p) [ inl g ↦ absurd (no g) | inr g ↦ g ]
  where
    no : D < p → ⊥
    no g = let wide : 2 ^ suc D ≤ 2 ^ p = pow_mono g in omega (arith, two-pow-succ D)

-- how far two paths agree, by a count of leading zeros over any width that holds the leaves
pub agree_zeros : (D w m n : ℕ) → m < 2 ^ D → n < 2 ^ D → D ≤ w
    → (w - count_leading_zeros w (bit_xor m n) ≤ D) × AgreeOn D m n (D + 1 - (w - count_leading_zeros w (bit_xor m n)))
agree_zeros D w m n h l k =
    let wide : 2 ^ D ≤ 2 ^ w = pow_mono k in
    let low : bit_xor m n < 2 ^ D = xor_lt D m n h l in
    let q = leading_length w (bit_xor m n) (omega arith) in
    let few : q.0 ≤ D = bits_few (bit_xor m n) q.0 D low q.3 in
    let e : q.0 ≡ w - count_leading_zeros w (bit_xor m n) = omega (arith, q.1) in
    (omega arith, subst (λ x. AgreeOn D m n (D + 1 - x)) e (agree_on D m n q.0 few q.2 q.3))

-- a tree that has a leaf is at most 12 deep, and the leaf below its number of leaves
pub leaf_below : (D m : ℕ) → is_leaf D m ≡ true → (D ≤ 12) × (m < 2 ^ D)
leaf_below D m f =
    let p = and_parts (is_depth D) (ltb m (2 ^ D)) f in
    (leb-true D 12 (and_parts (leb 1 D) (leb D 12) p.0).1, ltb-true m (2 ^ D) p.1)

-- the same of two leaves of a tree, at the width of a word
pub agree_leaves : (D m n : ℕ) → is_leaf D m ≡ true → is_leaf D n ≡ true
    → (32 - count_leading_zeros 32 (bit_xor m n) ≤ D) × AgreeOn D m n (D + 1 - (32 - count_leading_zeros 32 (bit_xor m n)))
agree_leaves D m n f g =
    let l = leaf_below D m f in
    let k = leaf_below D n g in
    agree_zeros D 32 m n l.1 k.1 (omega arith)

-- any two leaves' paths part once, and for good
pub paths_part : (D m n : ℕ) → m < 2 ^ D → n < 2 ^ D → (k : ℕ) × AgreeOn D m n k
paths_part D m n h l =
    (D + 1 - (D - count_leading_zeros D (bit_xor m n)), (agree_zeros D D m n h l (omega arith)).1)

pub path_laws : PathLaws
path_laws =
    record {
      root = path_root;
      last = path_leaf;
      halves = path_half;
      bounds = λ D m d h l. (path_low D m d l, path_high D m d h l);
      children = path_child;
      apart = paths_part;
    }

-- a bucket's layer is the whole part of its number's logarithm, and no bucket lies on two layers
pub layer_at : (v : ℕ) (r : Option ℕ) → IfNone r (v ≡ 0) → IfSome r (λ d. 2 ^ d ≤ v) → IfSome r (λ d. v < 2 * 2 ^ d)
    → MatchOption r (v ≡ 0) (λ d. OnLayer d v × ((e : ℕ) → OnLayer e v → e ≡ d))
layer_at v None none low high = none
layer_at v (Some d) none low high =
    let on : OnLayer d v = (low, omega (arith, high, two-pow-succ d)) in
    (on, λ e other. layer_unique e d v other on)
