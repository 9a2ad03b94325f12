-- One row of two runs side by side: what it is asked in each, and the leaves that the first brings.
use Rattle.std.proofs.Common.{◌≡◌, ℕ, zero, suc, Bool, true, false, cond, eqb, List, [], ◌∷◌, Some, None, Option, sym, refl, ap, ◌∙◌, subst, ap₂}
use Rattle.std.proofs.lemmas.Bool.{both_ways, eqb-true, eq-eqb, cond-true}
use Rattle.history.specs.Histories.{latest}
use Rattle.history.specs.Secrecy.{settled, given, row_given}

-- number n was asked
abbrev pub ever : List (Option ℕ) → ℕ → Bool
ever [] n = false
ever (None ∷ ms) n = ever ms n
ever (Some m ∷ ms) n = cond (eqb m n) true (ever ms n)

-- two runs of a row: both rest, both ask a number that is new to both, or each asks one that it asked before
pub data Both : List (Option ℕ) → List (Option ℕ) → List ℕ → Type 0 where
  start : Both [] [] []
  still : {ms ns : List (Option ℕ)} {xs : List ℕ} (x : ℕ) → Both ms ns xs → Both (None ∷ ms) (None ∷ ns) (x ∷ xs)
  fresh : {ms ns : List (Option ℕ)} {xs : List ℕ} (a x : ℕ) → ever ms a ≡ false → ever ns a ≡ false → Both ms ns xs
      → Both (Some a ∷ ms) (Some a ∷ ns) (x ∷ xs)
  again : {ms ns : List (Option ℕ)} {xs : List ℕ} (a b x : ℕ) → ever ms a ≡ true → ever ns b ≡ true → Both ms ns xs
      → Both (Some a ∷ ms) (Some b ∷ ns) (x ∷ xs)

ever_again : (ms : List (Option ℕ)) (a n : ℕ) → ever ms a ≡ true → ever (Some a ∷ ms) n ≡ ever ms n
ever_again ms a n h = go (eqb a n) refl
  where
    go : (t : Bool) → eqb a n ≡ t → cond t true (ever ms n) ≡ ever ms n
    go true e = sym (subst (λ k. ever ms k ≡ true) (eqb-true a n e) h)
    go false e = refl

-- the same numbers were asked
pub same_ever : {ms ns : List (Option ℕ)} {xs : List ℕ} → Both ms ns xs → (n : ℕ) → ever ms n ≡ ever ns n
same_ever start n = refl
same_ever (still x w) n = same_ever w n
same_ever (fresh a x p q w) n = ap (λ v. cond (eqb a n) true v) (same_ever w n)
same_ever (again {ms = ms} {ns = ns} a b x p q w) n = ever_again ms a n p ∙ (same_ever w n ∙ sym (ever_again ns b n q))

-- the second run with the leaves given to it, beside the first
pub turned : {ms ns : List (Option ℕ)} {xs : List ℕ} → (due : ℕ → ℕ) → Both ms ns xs → Both ns ms (given due ms ns xs)
turned due start = start
turned due (still x w) = still x (turned due w)
turned due (fresh {ms = ms} {xs = xs} a x p q w) = fresh a (due a) q p (turned (settled due a (latest ms xs a)) w)
turned due (again {ms = ms} {xs = xs} a b x p q w) = again b a (due b) q p (turned (settled due b (latest ms xs a)) w)

never_latest : (ms : List (Option ℕ)) (xs : List ℕ) (n : ℕ) → ever ms n ≡ false → latest ms xs n ≡ 0
never_latest [] xs n h = refl
never_latest (o ∷ ms) [] n h = refl
never_latest (None ∷ ms) (x ∷ xs) n h = never_latest ms xs n h
never_latest (Some m ∷ ms) (x ∷ xs) n h = go (eqb m n) h (never_latest ms xs n)
  where
    go : (t : Bool) → cond t true (ever ms n) ≡ false → (ever ms n ≡ false → latest ms xs n ≡ 0) → cond t x (latest ms xs n) ≡ 0
    go true e ih = absurd (both_ways true e refl)
    go false e ih = ih e

due_step : (due : ℕ → ℕ) (b n x later : ℕ) (was : Bool) → (was ≡ true → later ≡ settled due b x n) → cond (eqb b n) true was ≡ true
    → cond (eqb b n) (due b) later ≡ due n
due_step due b n x later was ih h = go (eqb b n) refl ih h
  where
    go : (t : Bool) → eqb b n ≡ t → (was ≡ true → later ≡ cond t x (due n)) → cond t true was ≡ true → cond t (due b) later ≡ due n
    go true e i k = ap due (eqb-true b n e)
    go false e i k = i k

-- the second run shows what was due
pub due_shown : {ms ns : List (Option ℕ)} {xs : List ℕ} → (due : ℕ → ℕ) → Both ms ns xs → (n : ℕ) → ever ns n ≡ true
    → latest ns (given due ms ns xs) n ≡ due n
due_shown due start n h = absurd (both_ways false refl h)
due_shown due (still x w) n h = due_shown due w n h
due_shown due (fresh {ms = ms} {ns = ns} {xs = xs} a x p q w) n h =
    due_step due a n (latest ms xs a) _ (ever ns n) (due_shown (settled due a (latest ms xs a)) w n) h
due_shown due (again {ms = ms} {ns = ns} {xs = xs} a b x p q w) n h =
    due_step due b n (latest ms xs a) _ (ever ns n) (due_shown (settled due b (latest ms xs a)) w n) h

settled_same : (due : ℕ → ℕ) (b x : ℕ) → settled due b x b ≡ x
settled_same due b x = cond-true (eqb b b) x (due b) (eq-eqb b b refl)

-- at a request that both ask, the second shows what the first shows
pub fresh_same : {ms ns : List (Option ℕ)} {xs : List ℕ} (due : ℕ → ℕ) (a : ℕ) → ever ms a ≡ false → ever ns a ≡ false → Both ms ns xs
    → latest ms xs a ≡ latest ns (given due ms ns xs) a
fresh_same {ms} {ns} {xs} due a p q w = never_latest ms xs a p ∙ sym (never_latest ns (given due ms ns xs) a q)

pub again_same : {ms ns : List (Option ℕ)} {xs : List ℕ} (due : ℕ → ℕ) (a b : ℕ) → ever ns b ≡ true → Both ms ns xs
    → latest ms xs a ≡ latest ns (given (settled due b (latest ms xs a)) ms ns xs) b
again_same {ms} {ns} {xs} due a b q w =
    sym (due_shown (settled due b (latest ms xs a)) w b q ∙ settled_same due b (latest ms xs a))

-- what the row shows j turns before the latest
abbrev pub shows : List (Option ℕ) → List ℕ → ℕ → ℕ
shows [] xs j = 0
shows (o ∷ ms) [] j = 0
shows (None ∷ ms) (x ∷ xs) zero = 0
shows (Some m ∷ ms) (x ∷ xs) zero = latest ms xs m
shows (o ∷ ms) (x ∷ xs) (suc j) = shows ms xs j

pub same_shows : {ms ns : List (Option ℕ)} {xs : List ℕ} → (due : ℕ → ℕ) → Both ms ns xs → (j : ℕ)
    → shows ms xs j ≡ shows ns (given due ms ns xs) j
same_shows due start j = refl
same_shows due (still x w) zero = refl
same_shows due (still x w) (suc j) = same_shows due w j
same_shows due (fresh {ms = ms} {xs = xs} a x p q w) zero = fresh_same (settled due a (latest ms xs a)) a p q w
same_shows due (fresh {ms = ms} {xs = xs} a x p q w) (suc j) = same_shows (settled due a (latest ms xs a)) w j
same_shows due (again a b x p q w) zero = again_same due a b q w
same_shows due (again {ms = ms} {xs = xs} a b x p q w) (suc j) = same_shows (settled due b (latest ms xs a)) w j

-- relabelling back
back_due : (back : ℕ → ℕ) (ms : List (Option ℕ)) (xs : List ℕ) (a x v : ℕ) → latest ms xs a ≡ v
    → ((n : ℕ) → ever (Some a ∷ ms) n ≡ true → back n ≡ latest (Some a ∷ ms) (x ∷ xs) n)
    → (n : ℕ) → ever ms n ≡ true → settled back a v n ≡ latest ms xs n
back_due back ms xs a x v s h n t = go (eqb a n) refl (h n)
  where
    go : (u : Bool) → eqb a n ≡ u → (cond u true (ever ms n) ≡ true → back n ≡ cond u x (latest ms xs n))
        → cond u v (back n) ≡ latest ms xs n
    go true e k = sym s ∙ ap (latest ms xs) (eqb-true a n e)
    go false e k = k t

back_head : (back : ℕ → ℕ) (ms : List (Option ℕ)) (xs : List ℕ) (a x : ℕ)
    → ((n : ℕ) → ever (Some a ∷ ms) n ≡ true → back n ≡ latest (Some a ∷ ms) (x ∷ xs) n) → back a ≡ x
back_head back ms xs a x h =
    h a (cond-true (eqb a a) true (ever ms a) (eq-eqb a a refl)) ∙ cond-true (eqb a a) x (latest ms xs a) (eq-eqb a a refl)

pub given_back : {ms ns : List (Option ℕ)} {xs : List ℕ} → (due back : ℕ → ℕ) → Both ms ns xs
    → ((n : ℕ) → ever ms n ≡ true → back n ≡ latest ms xs n) → given back ns ms (given due ms ns xs) ≡ xs
given_back due back start h = refl
given_back due back (still x w) h = ap (λ l. x ∷ l) (given_back due back w h)
given_back due back (fresh {ms = ms} {ns = ns} {xs = xs} a x p q w) h =
    let due' = settled due a (latest ms xs a) in
    let ys = given due' ms ns xs in
    let s = fresh_same due' a p q w in
    ap₂ ◌∷◌ (back_head back ms xs a x h) (given_back due' (settled back a (latest ns ys a)) w (back_due back ms xs a x (latest ns ys a) s h))
given_back due back (again {ms = ms} {ns = ns} {xs = xs} a b x p q w) h =
    let due' = settled due b (latest ms xs a) in
    let ys = given due' ms ns xs in
    let s = again_same due a b q w in
    ap₂ ◌∷◌ (back_head back ms xs a x h) (given_back due' (settled back a (latest ns ys b)) w (back_due back ms xs a x (latest ns ys b) s h))

-- a row relabelled and relabelled back is itself
pub row_back : {ms ns : List (Option ℕ)} {xs : List ℕ} → Both ms ns xs → row_given ns ms (row_given ms ns xs) ≡ xs
row_back {ms} {ns} {xs} w =
    given_back (latest ms xs) (latest ns (row_given ms ns xs)) w
    (λ n t. due_shown (latest ms xs) w n (sym (same_ever w n) ∙ t))
