-- What stands at one turn of a list, latest first: drop j leaves that turn and those before it.
use Rattle.std.proofs.Common.{◌≡◌, ℕ, zero, suc, Bool, true, false, cond, List, [], ◌∷◌, map, drop, Some, None, Option, sym, refl, ap, ◌∙◌, subst, arith}
use Rattle.std.proofs.lemmas.Bool.{cond-false, cond-true}
use Rattle.history.specs.Histories.{AllCan, Deed, History, RightCoins, Sort, opens, asks, drains, tears, Turn, accepted_in, accepting, calls_of, coins_of, deed, deed_of, deeds, leaves_in, named, numbers_in, opened, opened_by, requested, sort}
use Rattle.history.specs.Secrecy.{Alike, EachTurn, InRange, RangeOf, SideBySide, all_below, requested_in, relabelled_for, replaced, row_given}
use Rattle.history.proofs.Keeps.{relabelling_is_one_to_one}
use Rattle.runs.specs.Pairs.{counted_by}

-- the next turn
pub drop_more : {A : Type 0} (j : ℕ) (xs : List A) (x : A) (ys : List A) → drop j xs ≡ x ∷ ys → drop (suc j) xs ≡ ys
drop_more zero [] x ys e = absurd (let z : ◌≡◌ {A = ℕ} 0 1 = cc in let n : ⊥ = omega arith in n)
drop_more zero (a ∷ xs) x ys e = cc
drop_more (suc j) [] x ys e = absurd (let z : ◌≡◌ {A = ℕ} 0 1 = cc in let n : ⊥ = omega arith in n)
drop_more (suc j) (a ∷ xs) x ys e = drop_more j xs x ys e

pub drop-map : {A B : Type 0} (f : A → B) (j : ℕ) (xs : List A) → drop j (map f xs) ≡ map f (drop j xs)
drop-map f zero xs = refl
drop-map f (suc j) [] = refl
drop-map f (suc j) (x ∷ xs) = drop-map f j xs

drop-deeds : {R : Type 0} (j : ℕ) (h : History R) → drop j (deeds h) ≡ deeds (drop j h)
drop-deeds zero h = refl
drop-deeds (suc j) [] = refl
drop-deeds (suc j) (t ∷ h) = drop-deeds j h

drop_counted : {R : Type 0} (j : ℕ) (h g : History R) → drop j (counted_by h g) ≡ counted_by (drop j h) (drop j g)
drop_counted zero h g = refl
drop_counted (suc j) [] [] = refl
drop_counted (suc j) [] (u ∷ g) = refl
drop_counted (suc j) (t ∷ h) [] = go j h
  where
    go : (k : ℕ) (x : History _) → drop (suc k) (counted_by (t ∷ x) []) ≡ counted_by (drop k x) []
    go zero [] = refl
    go zero (y ∷ x) = refl
    go (suc k) [] = refl
    go (suc k) (y ∷ x) = go k x
drop_counted (suc j) (t ∷ h) (u ∷ g) = drop_counted j h g

-- what holds of each turn holds of this one
each_at : (Q : Deed → List ℕ → Type 0) (ds : List Deed) (cs : List (List ℕ)) → EachTurn Q ds cs → (j : ℕ) (d : Deed) (ds' : List Deed)
    (c : List ℕ) (cs' : List (List ℕ)) → drop j ds ≡ d ∷ ds' → drop j cs ≡ c ∷ cs' → Q d c
each_at Q [] cs h zero d ds' c cs' e f = absurd (let z : ◌≡◌ {A = ℕ} 0 1 = cc in let n : ⊥ = omega arith in n)
each_at Q [] cs h (suc j) d ds' c cs' e f = absurd (let z : ◌≡◌ {A = ℕ} 0 1 = cc in let n : ⊥ = omega arith in n)
each_at Q (x ∷ ds) [] h zero d ds' c cs' e f = absurd (let z : ◌≡◌ {A = ℕ} 0 1 = cc in let n : ⊥ = omega arith in n)
each_at Q (x ∷ ds) [] h (suc j) d ds' c cs' e f = absurd (let z : ◌≡◌ {A = ℕ} 0 1 = cc in let n : ⊥ = omega arith in n)
each_at Q (x ∷ ds) (y ∷ cs) h zero d ds' c cs' e f =
    let p : x ≡ d = cc in
    let q : y ≡ c = cc in
    subst (λ a. Q a c) p (subst (Q x) q h.0)
each_at Q (x ∷ ds) (y ∷ cs) h (suc j) d ds' c cs' e f = each_at Q ds cs h.1 j d ds' c cs' e f

-- the coins of turns that can be accepted are in range
range_of : (s : Sort) (n k : ℕ) (Ds c : List ℕ) → RightCoins s Ds c → RangeOf Ds (accepting s n k) c
range_of opens n k Ds c h = h
range_of asks n k Ds c h = h
range_of drains n k Ds c h = h
range_of tears n k Ds c h = h

right_of : (s : Sort) (n k : ℕ) (Ds c : List ℕ) → RangeOf Ds (accepting s n k) c → RightCoins s Ds c
right_of opens n k Ds c h = h
right_of asks n k Ds c h = h
right_of drains n k Ds c h = h
right_of tears n k Ds c h = h

can_range : {R : Type 0} (N : ℕ) (Ds : List ℕ) (h : History R) → AllCan N Ds h → InRange Ds (deeds h) (coins_of h)
can_range N Ds [] a = tt
can_range N Ds (t ∷ h) a = (go t.accepted refl, can_range N Ds h a.1)
  where
    go : (b : Bool) → t.accepted ≡ b → RangeOf Ds (deed_of b (sort t.call) (named t.call) (opened h)) t.coins
    go true e = range_of (sort t.call) (named t.call) (opened h) Ds t.coins (a.0 e).1
    go false e = tt

-- coins of a turn at which nothing is requested stay
stays_at : (L : ℕ → List ℕ) (ns : List (Option ℕ)) (cs : List (List ℕ)) (j : ℕ) (ns' : List (Option ℕ)) (c : List ℕ) (cs' : List (List ℕ))
    → drop j ns ≡ None ∷ ns' → drop j cs ≡ c ∷ cs' → (ys : List (List ℕ)) × (drop j (replaced L ns cs) ≡ c ∷ ys)
stays_at L [] cs zero ns' c cs' e f = absurd (let z : ◌≡◌ {A = ℕ} 0 1 = cc in let n : ⊥ = omega arith in n)
stays_at L [] cs (suc j) ns' c cs' e f = absurd (let z : ◌≡◌ {A = ℕ} 0 1 = cc in let n : ⊥ = omega arith in n)
stays_at L (o ∷ ns) [] zero ns' c cs' e f = absurd (let z : ◌≡◌ {A = ℕ} 0 1 = cc in let n : ⊥ = omega arith in n)
stays_at L (o ∷ ns) [] (suc j) ns' c cs' e f = absurd (let z : ◌≡◌ {A = ℕ} 0 1 = cc in let n : ⊥ = omega arith in n)
stays_at L (None ∷ ns) (y ∷ cs) zero ns' c cs' e f = (replaced (λ r. drop 1 (L r)) ns cs, let q : y ≡ c = cc in ap (λ x. x ∷ replaced (λ r. drop 1 (L r)) ns cs) q)
stays_at L (Some n ∷ ns) (y ∷ cs) zero ns' c cs' e f = absurd (let z : ◌≡◌ {A = ℕ} 0 1 = cc in let n : ⊥ = omega arith in n)
stays_at L (None ∷ ns) (y ∷ cs) (suc j) ns' c cs' e f = stays_at (λ r. drop 1 (L r)) ns cs j ns' c cs' e f
stays_at L (Some n ∷ ns) (y ∷ cs) (suc j) ns' c cs' e f = stays_at (λ r. drop 1 (L r)) ns cs j ns' c cs' e f

-- the relabelled coins of one turn: in range where the first list's turn was accepted, the first list's own where it was not
module _ {R : Type 0} (N : ℕ) (Ds : List ℕ) (h g : History R) (side : SideBySide R N Ds h (counted_by h g))
    (relabelled-are : coins_of g ≡ relabelled_for N h (counted_by h g) (coins_of h)) (j : ℕ) (t u : Turn R) (h₀ g₀ : History R)
    (eh : drop j h ≡ t ∷ h₀) (eg : drop j g ≡ u ∷ g₀) where
  first_coins : drop j (coins_of h) ≡ t.coins ∷ coins_of h₀
  first_coins = drop-map (λ x. x.coins) j h ∙ ap coins_of eh

  second_coins : drop j (coins_of g) ≡ u.coins ∷ coins_of g₀
  second_coins = drop-map (λ x. x.coins) j g ∙ ap coins_of eg

  pub accepted_right : t.accepted ≡ true → RightCoins (sort t.call) Ds u.coins
  accepted_right a =
      let into = ((relabelling_is_one_to_one R N Ds h (counted_by h g) side).within_range.into (coins_of h) (refl, can_range N Ds h side.first_can)).1 in
      let r = each_at (RangeOf Ds) (deeds h) (relabelled_for N h (counted_by h g) (coins_of h)) into j (deed t h₀) (deeds h₀) u.coins (coins_of g₀)
      (drop-deeds j h ∙ ap deeds eh) (ap (drop j) (sym relabelled-are) ∙ second_coins) in
      right_of (sort t.call) (named t.call) (opened h₀) Ds u.coins
      (subst (λ b. RangeOf Ds (deed_of b (sort t.call) (named t.call) (opened h₀)) u.coins) a r)

  asked_none : t.accepted ≡ false → drop j (requested_in (counted_by h g)) ≡ None ∷ requested_in (counted_by h₀ g₀)
  asked_none a =
      drop-map requested j (deeds (counted_by h g))
      ∙ (ap (map requested) (drop-deeds j (counted_by h g))
      ∙ (ap (λ x. requested_in x) (drop_counted j h g)
      ∙ (ap (λ x. requested_in (counted_by x (drop j g))) eh
      ∙ (ap (λ x. requested_in (counted_by (t ∷ h₀) x)) eg
      ∙ ap (λ b. requested (deed_of b (sort u.call) (named u.call) (opened (counted_by h₀ g₀))) ∷ requested_in (counted_by h₀ g₀)) a))))

  pub refused_same : t.accepted ≡ false → u.coins ≡ t.coins
  refused_same a = go (all_below N (requested_in (counted_by h g))) refl
    where
      go : (b : Bool) → all_below N (requested_in (counted_by h g)) ≡ b → u.coins ≡ t.coins
      go true e =
          let s = stays_at (λ r. row_given (numbers_in r (requested_in h)) (numbers_in r (requested_in (counted_by h g))) (leaves_in r (coins_of h)))
          (requested_in (counted_by h g)) (coins_of h) j (requested_in (counted_by h₀ g₀)) t.coins (coins_of h₀) (asked_none a) first_coins in
          let m = sym second_coins ∙ (ap (drop j) (relabelled-are ∙ cond-true _ _ _ e) ∙ s.1) in
          cc
      go false e =
          let m = sym second_coins ∙ (ap (drop j) (relabelled-are ∙ cond-false _ _ _ e) ∙ first_coins) in
          cc

-- opened alike
pub opened_alike : {R : Type 0} (h g : History R) → Alike (calls_of h) (calls_of g) → accepted_in h ≡ accepted_in g → opened h ≡ opened g
opened_alike [] [] a e = refl
opened_alike [] (u ∷ g) a e = absurd (let z : ◌≡◌ {A = ℕ} 0 1 = cc in let n : ⊥ = omega arith in n)
opened_alike (t ∷ h) [] a e = absurd (let z : ◌≡◌ {A = ℕ} 0 1 = cc in let n : ⊥ = omega arith in n)
opened_alike (t ∷ h) (u ∷ g) a e =
    let s : sort t.call ≡ sort u.call = cc in
    let b : t.accepted ≡ u.accepted = cc in
    let a' : Alike (calls_of h) (calls_of g) = cc in
    let e' : accepted_in h ≡ accepted_in g = cc in
    let k = opened_alike h g a' e' in
    ap (λ x. cond t.accepted (opened_by (sort t.call) x) x) k
    ∙ (ap (λ x. cond t.accepted (opened_by x (opened g)) (opened g)) s ∙ ap (λ x. cond x (opened_by (sort u.call) (opened g)) (opened g)) b)
