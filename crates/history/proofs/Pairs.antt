-- Two histories side by side pair.
use Rattle.std.proofs.Common.{◌≡◌, ℕ, ◌<◌, ◌≤◌, Bool, true, false, cond, ltb, List, [], ◌∷◌, length, sym, refl, ap, ◌∙◌, subst, ap₂, arith}
use Rattle.std.proofs.lemmas.Bool.{ltb-true, and_parts}
use Rattle.history.specs.Histories.{History, Sort, opens, asks, drains, tears, sort, named, Deed, rest, request, drain, tear_off, deed_of, deed, deeds, opened_by, opened, asked, coins_of, calls_of, accepted_in, InTime, RightCoins, AllCan}
use Rattle.history.specs.Secrecy.{Alike, requested_in, all_below, SideBySide, SameShape}
use Rattle.history.proofs.Coins.{Paired, begun, both_rest, both_open, both_ask, both_drain, both_tear, reshaped}

below_tail : (N : ℕ) (d : Deed) (es : List Deed) → all_below N (asked (d ∷ es)) ≡ true → all_below N (asked es) ≡ true
below_tail N rest es h = h
below_tail N (request n) es h = (and_parts (ltb n N) (all_below N (asked es)) h).1
below_tail N drain es h = h
below_tail N tear_off es h = h

pair_step : (N : ℕ) (Ds : List ℕ) (k : ℕ) (a : Bool) (s : Sort) (m n : ℕ) (c : List ℕ) (ds es : List Deed) (cs : List (List ℕ))
    → Paired (length Ds) k ds es cs → k ≤ N → (a ≡ true → InTime N s m k × RightCoins s Ds c)
    → all_below N (asked (deed_of a s n k ∷ es)) ≡ true
    → Paired (length Ds) (cond a (opened_by s k) k) (deed_of a s m k ∷ ds) (deed_of a s n k ∷ es) (c ∷ cs)
    × (cond a (opened_by s k) k ≤ N)
pair_step N Ds k false s m n c ds es cs w l can b = (both_rest c w, l)
pair_step N Ds k true opens m n c ds es cs w l can b =
    let q : k < N = (can refl).0 in
    (both_open c (can refl).1.0 w, omega arith)
pair_step N Ds k true asks m n c ds es cs w l can b =
    let e : k ≡ N = (can refl).0.0 in
    let p : m < N = (can refl).0.1 in
    let q : n < N = ltb-true n N (and_parts (ltb n N) (all_below N (asked es)) b).0 in
    (both_ask m n c (omega arith) (omega arith) (can refl).1.0 w, l)
pair_step N Ds k true drains m n c ds es cs w l can b = (both_drain c w, l)
pair_step N Ds k true tears m n c ds es cs w l can b = (both_tear c w, l)

module _ (R : Type 0) (N : ℕ) (Ds : List ℕ) where
  -- with the opens counted
  pair_all : (h g : History R) → Alike (calls_of h) (calls_of g) → accepted_in h ≡ accepted_in g → AllCan N Ds h
      → all_below N (requested_in g) ≡ true
      → Paired (length Ds) (opened h) (deeds h) (deeds g) (coins_of h) × (opened h ≤ N) × (opened g ≡ opened h)
  pair_all [] [] a b can below = (begun, omega arith, refl)
  pair_all [] (u ∷ g) a b can below = absurd (let z : ◌≡◌ {A = ℕ} 0 1 = cc in omega arith)
  pair_all (t ∷ h) [] a b can below = absurd (let z : ◌≡◌ {A = ℕ} 0 1 = cc in omega arith)
  pair_all (t ∷ h) (u ∷ g) a b can below =
      let a' : Alike (calls_of h) (calls_of g) = cc in
      let b' : accepted_in h ≡ accepted_in g = cc in
      let s : sort u.call ≡ sort t.call = cc in
      let v : u.accepted ≡ t.accepted = cc in
      let ih = pair_all h g a' b' can.1 (below_tail N (deed u g) (deeds g) below) in
      let e : deed u g ≡ deed_of t.accepted (sort t.call) (named u.call) (opened h) =
      turn_same u.accepted t.accepted (sort u.call) (sort t.call) (named u.call) (opened g) (opened h) v s ih.2 in
      let below' = subst (λ d. all_below N (asked (d ∷ deeds g)) ≡ true) e below in
      let w =
      pair_step N Ds (opened h) t.accepted (sort t.call) (named t.call) (named u.call) t.coins (deeds h) (deeds g)
      (coins_of h) ih.0 ih.1 can.0 below' in (
        subst (λ d. Paired (length Ds) (opened (t ∷ h)) (deeds (t ∷ h)) (d ∷ deeds g) (coins_of (t ∷ h))) (sym e) w.0,
        w.1,
        opens_same u.accepted t.accepted (sort u.call) (sort t.call) (opened g) (opened h) v s ih.2,
      )
    where
      turn_same : (p q : Bool) (s z : Sort) (n k l : ℕ) → p ≡ q → s ≡ z → k ≡ l → deed_of p s n k ≡ deed_of q z n l
      turn_same p q s z n k l e f i = ap₂ (λ (x : Bool) (y : Sort). deed_of x y n k) e f ∙ ap (deed_of q z n) i

      opens_same : (p q : Bool) (s z : Sort) (k l : ℕ) → p ≡ q → s ≡ z → k ≡ l → cond p (opened_by s k) k ≡ cond q (opened_by z l) l
      opens_same p q s z k l e f i =
          ap₂ (λ (x : Bool) (y : Sort). cond x (opened_by y k) k) e f ∙ ap (λ (x : ℕ). cond q (opened_by z x) x) i

  -- with any coins of the same shape
  pub paired : (h g : History R) → SideBySide R N Ds h g → all_below N (requested_in g) ≡ true → (cs : List (List ℕ))
      → SameShape cs (coins_of h) → Paired (length Ds) (opened h) (deeds h) (deeds g) cs
  paired h g s b cs e = reshaped (length Ds) (pair_all h g s.alike s.turns s.first_can b).0 cs e
