-- Two runs side by side, all rows: their deeds, and the coins of the first.
use Rattle.std.proofs.Common.{◌≡◌, ℕ, zero, suc, ◌+◌, ◌*◌, ◌/◌, ◌%◌, ◌<◌, Bool, true, false, cond, eqb, List, [], ◌∷◌, map, length, get_or, drop, Some, None, Option, sym, refl, ap, ◌∙◌, subst, ap₂, ⊎_elim, arith}
use Rattle.std.proofs.lemmas.Bool.{eqb-true, eq-eqb, ne_eqb, cond-true, cond-false, cases_eq}
use Rattle.history.specs.Histories.{Deed, rest, request, drain, tear_off, asked, row_number, request_share, new_leaf, numbers_in, leaves_in, latest}
use Rattle.history.specs.Secrecy.{given, row_given, settled, with_leaves, replaced}
use Rattle.history.proofs.Rows.{ever, Both, start, still, fresh, again, same_ever, row_back}

-- k opens so far, and a request has three coins for each of R rows
pub data Paired (R : ℕ) : ℕ → List Deed → List Deed → List (List ℕ) → Type 0 where
  begun : Paired R 0 [] [] []
  both_rest : {k : ℕ} {ds es : List Deed} {cs : List (List ℕ)} (c : List ℕ) → Paired R k ds es cs
      → Paired R k (rest ∷ ds) (rest ∷ es) (c ∷ cs)
  both_open : {k : ℕ} {ds es : List Deed} {cs : List (List ℕ)} (c : List ℕ) → length c ≡ request_share * R → Paired R k ds es cs
      → Paired R (suc k) (request k ∷ ds) (request k ∷ es) (c ∷ cs)
  both_ask : {k : ℕ} {ds es : List Deed} {cs : List (List ℕ)} (m n : ℕ) (c : List ℕ) → m < k → n < k
      → length c ≡ request_share * R → Paired R k ds es cs → Paired R k (request m ∷ ds) (request n ∷ es) (c ∷ cs)
  both_drain : {k : ℕ} {ds es : List Deed} {cs : List (List ℕ)} (c : List ℕ) → Paired R k ds es cs
      → Paired R k (drain ∷ ds) (drain ∷ es) (c ∷ cs)
  both_tear : {k : ℕ} {ds es : List Deed} {cs : List (List ℕ)} (c : List ℕ) → Paired R k ds es cs
      → Paired R k (tear_off ∷ ds) (tear_off ∷ es) (c ∷ cs)

module _ (R : ℕ) where
  pub swapped : {k : ℕ} {ds es : List Deed} {cs : List (List ℕ)} → Paired R k ds es cs → Paired R k es ds cs
  swapped begun = begun
  swapped (both_rest c w) = both_rest c (swapped w)
  swapped (both_open c l w) = both_open c l (swapped w)
  swapped (both_ask m n c p q l w) = both_ask n m c q p l (swapped w)
  swapped (both_drain c w) = both_drain c (swapped w)
  swapped (both_tear c w) = both_tear c (swapped w)

-- coins of the same shape
pub reshaped : (R : ℕ) {k : ℕ} {ds es : List Deed} {cs : List (List ℕ)} → Paired R k ds es cs → (ys : List (List ℕ))
    → map length ys ≡ map length cs → Paired R k ds es ys
reshaped R begun [] h = begun
reshaped R begun (y ∷ ys) h = absurd (let z : ◌≡◌ {A = ℕ} 0 1 = cc in omega arith)
reshaped R (both_rest c w) [] h = absurd (let z : ◌≡◌ {A = ℕ} 0 1 = cc in omega arith)
reshaped R (both_rest {cs = cs} c w) (y ∷ ys) h = let t : map length ys ≡ map length cs = cc in both_rest y (reshaped R w ys t)
reshaped R (both_open c l w) [] h = absurd (let z : ◌≡◌ {A = ℕ} 0 1 = cc in omega arith)
reshaped R (both_open {cs = cs} c l w) (y ∷ ys) h =
    let t : map length ys ≡ map length cs = cc in
    let s : length y ≡ length c = cc in
    both_open y (s ∙ l) (reshaped R w ys t)
reshaped R (both_ask m n c p q l w) [] h = absurd (let z : ◌≡◌ {A = ℕ} 0 1 = cc in omega arith)
reshaped R (both_ask {cs = cs} m n c p q l w) (y ∷ ys) h =
    let t : map length ys ≡ map length cs = cc in
    let s : length y ≡ length c = cc in
    both_ask m n y p q (s ∙ l) (reshaped R w ys t)
reshaped R (both_drain c w) [] h = absurd (let z : ◌≡◌ {A = ℕ} 0 1 = cc in omega arith)
reshaped R (both_drain {cs = cs} c w) (y ∷ ys) h = let t : map length ys ≡ map length cs = cc in both_drain y (reshaped R w ys t)
reshaped R (both_tear c w) [] h = absurd (let z : ◌≡◌ {A = ℕ} 0 1 = cc in omega arith)
reshaped R (both_tear {cs = cs} c w) (y ∷ ys) h = let t : map length ys ≡ map length cs = cc in both_tear y (reshaped R w ys t)

-- every record opened was asked in its row
known_step : (r k m : ℕ) (ms : List (Option ℕ)) (was : m < k → ever ms (row_number r m) ≡ true) → m < suc k
    → ever (Some (row_number r k) ∷ ms) (row_number r m) ≡ true
known_step r k m ms was h = ⊎_elim same before (cases_eq m k)
  where
    same : m ≡ k → cond (eqb (row_number r k) (row_number r m)) true (ever ms (row_number r m)) ≡ true
    same e = cond-true (eqb (row_number r k) (row_number r m)) true (ever ms (row_number r m)) (eq-eqb _ _ (ap (row_number r) (sym e)))

    before : (m ≡ k → ⊥) → cond (eqb (row_number r k) (row_number r m)) true (ever ms (row_number r m)) ≡ true
    before n =
        let l : m < k = omega arith in
        subst (λ v. cond (eqb (row_number r k) (row_number r m)) true v ≡ true) (sym (was l)) (go (eqb (row_number r k) (row_number r m)))
      where
        go : (b : Bool) → cond b true true ≡ true
        go true = refl
        go false = refl

ever_more : (a n : ℕ) (ms : List (Option ℕ)) → ever ms n ≡ true → ever (Some a ∷ ms) n ≡ true
ever_more a n ms h = go (eqb a n)
  where
    go : (b : Bool) → cond b true (ever ms n) ≡ true
    go true = refl
    go false = h

pub known : (R r : ℕ) {k : ℕ} {ds es : List Deed} {cs : List (List ℕ)} → Paired R k ds es cs → (m : ℕ) → m < k
    → ever (numbers_in r (asked ds)) (row_number r m) ≡ true
known R r begun m h = absurd (let z : ⊥ = omega arith in z)
known R r (both_rest c w) m h = known R r w m h
known R r (both_open {k = k} {ds = ds} c l w) m h = known_step r k m (numbers_in r (asked ds)) (known R r w m) h
known R r (both_ask {ds = ds} a b c p q l w) m h = ever_more (row_number r a) (row_number r m) (numbers_in r (asked ds)) (known R r w m h)
known R r (both_drain c w) m h = known R r w m h
known R r (both_tear c w) m h = known R r w m h

open_row : (a x : ℕ) (ms ns : List (Option ℕ)) (xs : List ℕ) → Both ms ns xs → Both (Some a ∷ ms) (Some a ∷ ns) (x ∷ xs)
open_row a x ms ns xs w = go (ever ms a) refl
  where
    go : (b : Bool) → ever ms a ≡ b → Both (Some a ∷ ms) (Some a ∷ ns) (x ∷ xs)
    go true e = again a a x e (sym (same_ever w a) ∙ e) w
    go false e = fresh a x e (sym (same_ever w a) ∙ e) w

-- one row of it
pub row_of : (R r : ℕ) {k : ℕ} {ds es : List Deed} {cs : List (List ℕ)} → Paired R k ds es cs
    → Both (numbers_in r (asked ds)) (numbers_in r (asked es)) (leaves_in r cs)
row_of R r begun = start
row_of R r (both_rest c w) = still (new_leaf r c) (row_of R r w)
row_of R r (both_open {k = k} {ds = ds} {es = es} {cs = cs} c l w) =
    open_row (row_number r k) (new_leaf r c) (numbers_in r (asked ds)) (numbers_in r (asked es)) (leaves_in r cs) (row_of R r w)
row_of R r (both_ask m n c p q l w) =
    again (row_number r m) (row_number r n) (new_leaf r c) (known R r w m p) (known R r (swapped R w) n q) (row_of R r w)
row_of R r (both_drain c w) = still (new_leaf r c) (row_of R r w)
row_of R r (both_tear c w) = still (new_leaf r c) (row_of R r w)

-- a request's coins with other new leaves
pub with_length : (leaf : ℕ → ℕ) (i : ℕ) (c : List ℕ) → length (with_leaves leaf i c) ≡ length c
with_length leaf i [] = refl
with_length leaf i (x ∷ c) = ap suc (with_length leaf (suc i) c)

pub with_new : (leaf : ℕ → ℕ) (i : ℕ) (c : List ℕ) (j : ℕ) → j < length c → (i + j) % request_share ≡ 0
    → get_or (with_leaves leaf i c) j 0 ≡ leaf ((i + j) / request_share)
with_new leaf i [] j h e = absurd (let z : ⊥ = omega arith in z)
with_new leaf i (x ∷ c) zero h e =
    let d : i % request_share ≡ 0 = omega arith in
    cond-true (eqb (i % request_share) 0) (leaf (i / request_share)) x (eq-eqb _ _ d)
    ∙ ap leaf (let q : i / request_share ≡ (i + 0) / request_share = omega arith in q)
with_new leaf i (x ∷ c) (suc j) h e =
    with_new leaf (suc i) c j (let q : j < length c = omega arith in q) (let q : (suc i + j) % request_share ≡ 0 = omega arith in q)
    ∙ ap leaf (let q : (suc i + j) / request_share ≡ (i + suc j) / request_share = omega arith in q)

pub with_other : (leaf : ℕ → ℕ) (i : ℕ) (c : List ℕ) (j : ℕ) → ((i + j) % request_share ≡ 0 → ⊥)
    → get_or (with_leaves leaf i c) j 0 ≡ get_or c j 0
with_other leaf i [] j n = refl
with_other leaf i (x ∷ c) zero n =
    cond-false (eqb (i % request_share) 0) (leaf (i / request_share)) x
    (ne_eqb _ _ (λ e. n (let q : (i + 0) % request_share ≡ 0 = omega arith in q)))
with_other leaf i (x ∷ c) (suc j) n =
    with_other leaf (suc i) c j (λ e. n (let q : (i + suc j) % request_share ≡ 0 = omega arith in q))

pub new_with : (R r : ℕ) (leaf : ℕ → ℕ) (c : List ℕ) → r < R → length c ≡ request_share * R → new_leaf r (with_leaves leaf 0 c) ≡ leaf r
new_with R r leaf c h l =
    with_new leaf 0 c (request_share * r) (omega arith) (omega arith)
    ∙ ap leaf (let q : (0 + request_share * r) / request_share ≡ r = omega arith in q)

-- the first leaves put back
pub with_back : (f g : ℕ → ℕ) (i : ℕ) (c : List ℕ) → ((j : ℕ) → j < length c → (i + j) % request_share ≡ 0 → g ((i + j) / request_share) ≡ get_or c j 0)
    → with_leaves g i (with_leaves f i c) ≡ c
with_back f g i [] h = refl
with_back f g i (x ∷ c) h = ap₂ ◌∷◌ (go (eqb (i % request_share) 0) refl) (with_back f g (suc i) c more)
  where
    go : (b : Bool) → eqb (i % request_share) 0 ≡ b → cond b (g (i / request_share)) (cond b (f (i / request_share)) x) ≡ x
    go true e =
        let d : i % request_share ≡ 0 = eqb-true _ _ e in
        ap g (let q : i / request_share ≡ (i + 0) / request_share = omega arith in q) ∙ h 0 (omega arith) (omega arith)
    go false e = refl

    more : (j : ℕ) → j < length c → (suc i + j) % request_share ≡ 0 → g ((suc i + j) / request_share) ≡ get_or c j 0
    more j l e =
        ap g (let q : (suc i + j) / request_share ≡ (i + suc j) / request_share = omega arith in q)
        ∙ h (suc j) (omega arith) (omega arith)

-- the new leaves of a row after a replacement
col : (xs ys zs : List ℕ) (x y : ℕ) → y ≡ x → ys ≡ drop 1 xs → xs ≡ x ∷ zs → y ∷ ys ≡ xs
col xs ys zs x y p q e = ap₂ ◌∷◌ p (q ∙ ap (drop 1) e) ∙ sym e

pub columns : (R r : ℕ) → r < R → {k : ℕ} {ds es : List Deed} {cs : List (List ℕ)} → Paired R k ds es cs → (due : ℕ → ℕ) (leaves : ℕ → List ℕ)
    → leaves r ≡ given due (numbers_in r (asked ds)) (numbers_in r (asked es)) (leaves_in r cs)
    → leaves_in r (replaced leaves (asked es) cs) ≡ leaves r
columns R r h begun due L e = sym e
columns R r h (both_rest c w) due L e = col (L r) _ _ (new_leaf r c) (new_leaf r c) refl (columns R r h w due (λ i. drop 1 (L i)) (ap (drop 1) e)) e
columns R r h (both_open {k = k} {ds = ds} {cs = cs} c l w) due L e =
    col (L r) _ _ (due (row_number r k)) _ (new_with R r (λ i. get_or (L i) 0 0) c h l ∙ ap (λ xs. get_or xs 0 0) e)
    (columns R r h w (settled due (row_number r k) (latest (numbers_in r (asked ds)) (leaves_in r cs) (row_number r k))) (λ i. drop 1 (L i)) (ap (drop 1) e)) e
columns R r h (both_ask {ds = ds} {cs = cs} m n c p q l w) due L e =
    col (L r) _ _ (due (row_number r n)) _ (new_with R r (λ i. get_or (L i) 0 0) c h l ∙ ap (λ xs. get_or xs 0 0) e)
    (columns R r h w (settled due (row_number r n) (latest (numbers_in r (asked ds)) (leaves_in r cs) (row_number r m))) (λ i. drop 1 (L i)) (ap (drop 1) e)) e
columns R r h (both_drain c w) due L e = col (L r) _ _ (new_leaf r c) (new_leaf r c) refl (columns R r h w due (λ i. drop 1 (L i)) (ap (drop 1) e)) e
columns R r h (both_tear c w) due L e = col (L r) _ _ (new_leaf r c) (new_leaf r c) refl (columns R r h w due (λ i. drop 1 (L i)) (ap (drop 1) e)) e

-- replaced by others, and these by the first again
request_back : (R : ℕ) (L M : ℕ → List ℕ) (c : List ℕ) (cs : List (List ℕ)) → length c ≡ request_share * R
    → ((r : ℕ) → r < R → M r ≡ leaves_in r (c ∷ cs))
    → with_leaves (λ r. get_or (M r) 0 0) 0 (with_leaves (λ r. get_or (L r) 0 0) 0 c) ≡ c
request_back R L M c cs l h = with_back (λ r. get_or (L r) 0 0) (λ r. get_or (M r) 0 0) 0 c at
  where
    at : (j : ℕ) → j < length c → (0 + j) % request_share ≡ 0 → get_or (M ((0 + j) / request_share)) 0 0 ≡ get_or c j 0
    at j b e =
        ap (λ xs. get_or xs 0 0) (h ((0 + j) / request_share) (omega arith))
        ∙ ap (λ i. get_or c i 0) (let q : request_share * ((0 + j) / request_share) ≡ j = omega arith in q)

pub put_back_all : (R : ℕ) {k : ℕ} {ds es : List Deed} {cs : List (List ℕ)} → Paired R k ds es cs → (L M : ℕ → List ℕ)
    → ((r : ℕ) → r < R → M r ≡ leaves_in r cs) → replaced M (asked ds) (replaced L (asked es) cs) ≡ cs
put_back_all R begun L M h = refl
put_back_all R (both_rest c w) L M h = ap (λ l. c ∷ l) (put_back_all R w (λ i. drop 1 (L i)) (λ i. drop 1 (M i)) (λ r b. ap (drop 1) (h r b)))
put_back_all R (both_open {cs = cs} c l w) L M h =
    ap₂ ◌∷◌ (request_back R L M c cs l h) (put_back_all R w (λ i. drop 1 (L i)) (λ i. drop 1 (M i)) (λ r b. ap (drop 1) (h r b)))
put_back_all R (both_ask {cs = cs} m n c p q l w) L M h =
    ap₂ ◌∷◌ (request_back R L M c cs l h) (put_back_all R w (λ i. drop 1 (L i)) (λ i. drop 1 (M i)) (λ r b. ap (drop 1) (h r b)))
put_back_all R (both_drain c w) L M h = ap (λ l. c ∷ l) (put_back_all R w (λ i. drop 1 (L i)) (λ i. drop 1 (M i)) (λ r b. ap (drop 1) (h r b)))
put_back_all R (both_tear c w) L M h = ap (λ l. c ∷ l) (put_back_all R w (λ i. drop 1 (L i)) (λ i. drop 1 (M i)) (λ r b. ap (drop 1) (h r b)))

-- the coins relabelled, of two runs that pair
abbrev pub moved : List Deed → List Deed → List (List ℕ) → List (List ℕ)
moved ds es cs = replaced (λ r. row_given (numbers_in r (asked ds)) (numbers_in r (asked es)) (leaves_in r cs)) (asked es) cs

pub moved_column : (R r : ℕ) → r < R → {k : ℕ} {ds es : List Deed} {cs : List (List ℕ)} → Paired R k ds es cs
    → leaves_in r (moved ds es cs) ≡ row_given (numbers_in r (asked ds)) (numbers_in r (asked es)) (leaves_in r cs)
moved_column R r h {k} {ds} {es} {cs} w =
    columns R r h w (latest (numbers_in r (asked ds)) (leaves_in r cs)) (λ i. row_given (numbers_in i (asked ds)) (numbers_in i (asked es)) (leaves_in i cs)) refl

-- relabelling back is the inverse
pub moved_back : (R : ℕ) {k : ℕ} {ds es : List Deed} {cs : List (List ℕ)} → Paired R k ds es cs → moved es ds (moved ds es cs) ≡ cs
moved_back R {k} {ds} {es} {cs} w =
    put_back_all R w (λ r. row_given (numbers_in r (asked ds)) (numbers_in r (asked es)) (leaves_in r cs))
    (λ r. row_given (numbers_in r (asked es)) (numbers_in r (asked ds)) (leaves_in r (moved ds es cs)))
    (λ r h. ap (row_given (numbers_in r (asked es)) (numbers_in r (asked ds))) (moved_column R r h w) ∙ row_back (row_of R r w))

-- the shape stays
pub replaced_shape : (L : ℕ → List ℕ) (ns : List (Option ℕ)) (cs : List (List ℕ)) → map length (replaced L ns cs) ≡ map length cs
replaced_shape L [] cs = refl
replaced_shape L (o ∷ ns) [] = refl
replaced_shape L (None ∷ ns) (c ∷ cs) = ap (λ l. length c ∷ l) (replaced_shape (λ i. drop 1 (L i)) ns cs)
replaced_shape L (Some n ∷ ns) (c ∷ cs) =
    ap₂ ◌∷◌ (with_length (λ i. get_or (L i) 0 0) 0 c) (replaced_shape (λ i. drop 1 (L i)) ns cs)
