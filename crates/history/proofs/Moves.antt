-- The new leaves of a row move by one permutation of its accepted requests; every other coin stays.
use Rattle.std.proofs.Common.{◌≡◌, ℕ, zero, suc, ◌-◌, ◌*◌, ◌/◌, ◌%◌, ◌<◌, ◌≤◌, Bool, true, false, cond, eqb, List, [], ◌∷◌, map, length, get_or, drop, Some, None, Option, sym, refl, ap, ◌∙◌, subst, ap₂, ⊎_elim, arith}
use Rattle.std.proofs.lemmas.List.{length-map, get_or_past}
use Rattle.std.proofs.lemmas.Bool.{cases_eq, cases_lt}
use Rattle.history.specs.Histories.{History, Deed, row_number, deeds, asked, coins_of, request_share, new_leaf, numbers_in, leaves_in, latest}
use Rattle.history.specs.Secrecy.{settled, given, row_given, with_leaves, replaced, all_below, requested_in, SideBySide, SameShape, at_turn, Asked, Requested, marks, origin, RowMoves, LeavesMove, LeavesOnlyMove}
use Rattle.history.proofs.Rows.{Both, start, still, fresh, again, turned, row_back}
use Rattle.history.proofs.Coins.{Paired, begun, both_rest, both_open, both_ask, both_drain, both_tear, row_of, with_other, with_length, moved, moved_column, replaced_shape}
use Rattle.history.proofs.Pairs.{paired}
use Rattle.history.proofs.Turns.{at_last, at_before, at_past, at_map, asked_in, in_row, from_row}

-- the leaf of a marked turn
abbrev stamp_at : List ℕ → ℕ → ℕ
stamp_at xs zero = 0
stamp_at xs (suc t) = at_turn 0 xs t

marks_long : (ms : List (Option ℕ)) → length (marks ms) ≡ length ms
marks_long [] = refl
marks_long (o ∷ ms) = ap suc (marks_long ms)

marks_at : (ms : List (Option ℕ)) (t : ℕ) → t < length ms → at_turn 0 (marks ms) t ≡ suc t
marks_at [] t h = absurd (let z : ⊥ = omega arith in z)
marks_at (o ∷ ms) t h = ⊎_elim last (before (marks_at ms t)) (cases_eq t (length ms))
  where
    long : length (marks ms) ≡ length ms
    long = marks_long ms

    last : t ≡ length ms → at_turn 0 (marks (o ∷ ms)) t ≡ suc t
    last e = at_last 0 (suc (length ms)) (marks ms) t (e ∙ sym long) ∙ ap suc (sym e)

    before : (t < length ms → at_turn 0 (marks ms) t ≡ suc t) → (t ≡ length ms → ⊥) → at_turn 0 (marks (o ∷ ms)) t ≡ suc t
    before ih n = at_before 0 (suc (length ms)) (marks ms) t (λ e. n (e ∙ long)) ∙ ih (omega arith)

marks-map : (ms : List (Option ℕ)) (xs : List ℕ) (f : ℕ → ℕ) → length ms ≡ length xs
    → ((t : ℕ) → t < length xs → f (suc t) ≡ at_turn 0 xs t) → map f (marks ms) ≡ xs
marks-map [] [] f l h = refl
marks-map [] (x ∷ xs) f l h = absurd (let z : ⊥ = omega arith in z)
marks-map (o ∷ ms) [] f l h = absurd (let z : ⊥ = omega arith in z)
marks-map (o ∷ ms) (x ∷ xs) f l h =
    let l' : length ms ≡ length xs = omega arith in
    ap₂ ◌∷◌ (h (length ms) (omega arith) ∙ at_last 0 x xs (length ms) l')
    (marks-map ms xs f l' (λ t b. h t (omega arith) ∙ at_before 0 x xs t (λ e. omega arith)))

-- the lists of a row are equally long
pub first_long : {ms ns : List (Option ℕ)} {xs : List ℕ} → Both ms ns xs → length ms ≡ length xs
first_long start = refl
first_long (still x w) = ap suc (first_long w)
first_long (fresh a x p q w) = ap suc (first_long w)
first_long (again a b x p q w) = ap suc (first_long w)

pub second_long : {ms ns : List (Option ℕ)} {xs : List ℕ} → Both ms ns xs → length ns ≡ length xs
second_long start = refl
second_long (still x w) = ap suc (second_long w)
second_long (fresh a x p q w) = ap suc (second_long w)
second_long (again a b x p q w) = ap suc (second_long w)

stamped : {ms ns : List (Option ℕ)} {xs : List ℕ} → Both ms ns xs → Both ms ns (marks ms)
stamped start = start
stamped (still {ms = ms} x w) = still (suc (length ms)) (stamped w)
stamped (fresh {ms = ms} a x p q w) = fresh a (suc (length ms)) p q (stamped w)
stamped (again {ms = ms} a b x p q w) = again a b (suc (length ms)) p q (stamped w)

-- leaves changed one by one, then given, are given, then changed
module _ (f : ℕ → ℕ) (f0 : f 0 ≡ 0) where
  choose : (b : Bool) (y v u : ℕ) → u ≡ f v → cond b (f y) u ≡ f (cond b y v)
  choose true y v u e = refl
  choose false y v u e = e

  latest_map : {ms ns : List (Option ℕ)} {xs : List ℕ} → Both ms ns xs → (n : ℕ) → latest ms (map f xs) n ≡ f (latest ms xs n)
  latest_map start n = sym f0
  latest_map (still x w) n = latest_map w n
  latest_map (fresh {ms = ms} {xs = xs} a x p q w) n = choose (eqb a n) x (latest ms xs n) (latest ms (map f xs) n) (latest_map w n)
  latest_map (again {ms = ms} {xs = xs} a b x p q w) n = choose (eqb a n) x (latest ms xs n) (latest ms (map f xs) n) (latest_map w n)

  due_map : (due due' : ℕ → ℕ) (b v v' : ℕ) → v' ≡ f v → ((n : ℕ) → due' n ≡ f (due n)) → (n : ℕ)
      → settled due' b v' n ≡ f (settled due b v n)
  due_map due due' b v v' e h n = go (eqb b n)
    where
      go : (t : Bool) → cond t v' (due' n) ≡ f (cond t v (due n))
      go true = e
      go false = h n

  given_map : {ms ns : List (Option ℕ)} {xs : List ℕ} → Both ms ns xs → (due due' : ℕ → ℕ) → ((n : ℕ) → due' n ≡ f (due n))
      → given due' ms ns (map f xs) ≡ map f (given due ms ns xs)
  given_map start due due' h = refl
  given_map (still x w) due due' h = ap (λ l. f x ∷ l) (given_map w due due' h)
  given_map (fresh {ms = ms} {xs = xs} a x p q w) due due' h =
      ap₂ ◌∷◌ (h a)
      (given_map w (settled due a (latest ms xs a)) (settled due' a (latest ms (map f xs) a))
      (due_map due due' a (latest ms xs a) (latest ms (map f xs) a) (latest_map w a) h))
  given_map (again {ms = ms} {xs = xs} a b x p q w) due due' h =
      ap₂ ◌∷◌ (h b)
      (given_map w (settled due b (latest ms xs a)) (settled due' b (latest ms (map f xs) a))
      (due_map due due' b (latest ms xs a) (latest ms (map f xs) a) (latest_map w a) h))

-- where the leaf of each turn comes from, plus 1
abbrev origins : List (Option ℕ) → List (Option ℕ) → List ℕ
origins ms ns = row_given ms ns (marks ms)

natural : {ms ns : List (Option ℕ)} {xs : List ℕ} → Both ms ns xs → row_given ms ns xs ≡ map (stamp_at xs) (origins ms ns)
natural {ms} {ns} {xs} w =
    let e = marks-map ms xs (stamp_at xs) (first_long w) (λ t b. refl) in
    let v = stamped w in
    subst (λ ys. row_given ms ns ys ≡ map (stamp_at xs) (origins ms ns)) e
    (given_map (stamp_at xs) refl v (latest ms (marks ms)) (latest ms (map (stamp_at xs) (marks ms))) (latest_map (stamp_at xs) refl v))

natural_at : {ms ns : List (Option ℕ)} {xs : List ℕ} → Both ms ns xs → (t : ℕ)
    → at_turn 0 (row_given ms ns xs) t ≡ stamp_at xs (at_turn 0 (origins ms ns) t)
natural_at {ms} {ns} {xs} w t = ap (λ l. at_turn 0 l t) (natural w) ∙ at_map (stamp_at xs) 0 (origins ms ns) t

-- the origins in one direction undo those in the other
round : {ms ns : List (Option ℕ)} {xs : List ℕ} → Both ms ns xs → (t : ℕ) → t < length ms
    → stamp_at (origins ms ns) (at_turn 0 (origins ns ms) t) ≡ suc t
round {ms} {ns} {xs} w t h =
    let v = stamped w in
    sym (natural_at (turned (latest ms (marks ms)) v) t) ∙ (ap (λ l. at_turn 0 l t) (row_back v) ∙ marks_at ms t h)

stamp_of : (xs : List ℕ) (v t : ℕ) → stamp_at xs v ≡ suc t → (v ≡ suc (v - 1)) × (at_turn 0 xs (v - 1) ≡ suc t)
stamp_of xs zero t e = absurd (let z : ⊥ = omega arith in z)
stamp_of xs (suc v) t e = let q : v ≡ suc v - 1 = omega arith in (omega arith, ap (at_turn 0 xs) (sym q) ∙ e)

origin_of : {ms ns : List (Option ℕ)} {xs : List ℕ} → Both ms ns xs → (t : ℕ) → t < length ms
    → (at_turn 0 (origins ns ms) t ≡ suc (origin ns ms t)) × (at_turn 0 (origins ms ns) (origin ns ms t) ≡ suc t)
origin_of {ms} {ns} w t h = stamp_of (origins ms ns) (at_turn 0 (origins ns ms) t) t (round w t h)

-- other turns keep their leaf
pub given_long : {ms ns : List (Option ℕ)} {xs : List ℕ} → (due : ℕ → ℕ) → Both ms ns xs → length (given due ms ns xs) ≡ length xs
given_long due w = sym (first_long (turned due w)) ∙ second_long w

idle_step : (o : Option ℕ) (ns : List (Option ℕ)) (x y t : ℕ) (xs ys : List ℕ) → length ns ≡ length xs → length ys ≡ length xs
    → (o ≡ None → y ≡ x) → (at_turn None ns t ≡ None → at_turn 0 ys t ≡ at_turn 0 xs t) → at_turn None (o ∷ ns) t ≡ None
    → at_turn 0 (y ∷ ys) t ≡ at_turn 0 (x ∷ xs) t
idle_step o ns x y t xs ys l k same ih h = ⊎_elim last before (cases_eq t (length xs))
  where
    last : t ≡ length xs → at_turn 0 (y ∷ ys) t ≡ at_turn 0 (x ∷ xs) t
    last e =
        at_last 0 y ys t (e ∙ sym k)
        ∙ (same (sym (at_last None o ns t (e ∙ sym l)) ∙ h) ∙ sym (at_last 0 x xs t e))

    before : (t ≡ length xs → ⊥) → at_turn 0 (y ∷ ys) t ≡ at_turn 0 (x ∷ xs) t
    before n =
        at_before 0 y ys t (λ e. n (e ∙ k))
        ∙ (ih (sym (at_before None o ns t (λ e. n (e ∙ l))) ∙ h) ∙ sym (at_before 0 x xs t n))

not_none : (n y x : ℕ) → Some n ≡ None → y ≡ x
not_none n y x e = absurd (let z : ◌≡◌ {A = ℕ} 0 1 = cc in omega arith)

idle : {ms ns : List (Option ℕ)} {xs : List ℕ} → (due : ℕ → ℕ) → Both ms ns xs → (t : ℕ) → at_turn None ns t ≡ None
    → at_turn 0 (given due ms ns xs) t ≡ at_turn 0 xs t
idle due start t h = refl
idle due (still {ms = ms} {ns = ns} {xs = xs} x w) t h =
    idle_step None ns x x t xs (given due ms ns xs) (second_long w) (given_long due w) (λ e. refl) (idle due w t) h
idle due (fresh {ms = ms} {ns = ns} {xs = xs} a x p q w) t h =
    let due' = settled due a (latest ms xs a) in
    idle_step (Some a) ns x (due a) t xs (given due' ms ns xs) (second_long w) (given_long due' w) (not_none a (due a) x) (idle due' w t) h
idle due (again {ms = ms} {ns = ns} {xs = xs} a b x p q w) t h =
    let due' = settled due b (latest ms xs a) in
    idle_step (Some b) ns x (due b) t xs (given due' ms ns xs) (second_long w) (given_long due' w) (not_none b (due b) x) (idle due' w t) h

-- both ask at the same turns
request_step : (o p : Option ℕ) (ms ns : List (Option ℕ)) (t n : ℕ) → length ms ≡ length ns → (o ≡ Some n → Requested (p ∷ []) 0)
    → (Asked ms t n → Requested ns t) → Asked (o ∷ ms) t n → Requested (p ∷ ns) t
request_step o p ms ns t n l head ih h = ⊎_elim last before (cases_eq t (length ms))
  where
    last : t ≡ length ms → Requested (p ∷ ns) t
    last e =
        let q = head (sym (at_last None o ms t e) ∙ h) in
        (q.0, at_last None p ns t (e ∙ l) ∙ q.1)

    before : (t ≡ length ms → ⊥) → Requested (p ∷ ns) t
    before k =
        let q = ih (sym (at_before None o ms t k) ∙ h) in
        (q.0, at_before None p ns t (λ e. k (e ∙ sym l)) ∙ q.1)

pub same_long : {ms ns : List (Option ℕ)} {xs : List ℕ} → Both ms ns xs → length ms ≡ length ns
same_long w = first_long w ∙ sym (second_long w)

pub none_asks : (n : ℕ) (P : Type 0) → None ≡ Some n → P
none_asks n P e = absurd (let z : ◌≡◌ {A = ℕ} 0 1 = cc in omega arith)

pub same_request : {ms ns : List (Option ℕ)} {xs : List ℕ} → Both ms ns xs → (t n : ℕ) → Asked ms t n → Requested ns t
same_request start t n h = none_asks n (Requested [] t) h
same_request (still {ms = ms} {ns = ns} x w) t n h =
    request_step None None ms ns t n (same_long w) (λ e. none_asks n (Requested (None ∷ []) 0) e) (same_request w t n) h
same_request (fresh {ms = ms} {ns = ns} a x p q w) t n h =
    request_step (Some a) (Some a) ms ns t n (same_long w) (λ e. (a, refl)) (same_request w t n) h
same_request (again {ms = ms} {ns = ns} a b x p q w) t n h =
    request_step (Some a) (Some b) ms ns t n (same_long w) (λ e. (b, refl)) (same_request w t n) h

-- the origin of a request is a request
origin_request : {ms ns : List (Option ℕ)} {xs : List ℕ} → Both ms ns xs → (t : ℕ) → Requested ms t → Requested ms (origin ms ns t)
origin_request {ms} {ns} {xs} w t h = go (at_turn None ms (origin ms ns t)) refl
  where
    v : Both ns ms (given (latest ms xs) ms ns xs)
    v = turned (latest ms xs) w

    here : t < length ns
    here = let l = same_long w in let b = asked_in ms t h.0 h.1 in omega arith

    undone : at_turn 0 (origins ns ms) (origin ms ns t) ≡ suc t
    undone = (origin_of v t here).1

    stuck : at_turn None ms (origin ms ns t) ≡ None → at_turn 0 (marks ns) (origin ms ns t) ≡ suc t
    stuck e = sym (idle (latest ns (marks ns)) (stamped v) (origin ms ns t) e) ∙ undone

    same : at_turn None ms (origin ms ns t) ≡ None → origin ms ns t ≡ t
    same e = ⊎_elim inside outside (cases_lt (origin ms ns t) (length ns))
      where
        inside : origin ms ns t < length ns → origin ms ns t ≡ t
        inside b =
            let p = marks_at ns (origin ms ns t) b in
            let q = stuck e in
            let z : suc (origin ms ns t) ≡ suc t = sym p ∙ q in
            omega arith

        outside : length ns ≤ origin ms ns t → origin ms ns t ≡ t
        outside b =
            let p = at_past 0 (marks ns) (origin ms ns t) (let q : length (marks ns) ≤ origin ms ns t = let l = marks_long ns in omega arith in q) in
            let z : 0 ≡ suc t = sym p ∙ stuck e in
            absurd (omega arith)

    go : (o : Option ℕ) → at_turn None ms (origin ms ns t) ≡ o → Requested ms (origin ms ns t)
    go (Some n) e = (n, e)
    go None e =
        none_asks h.0 (Requested ms (origin ms ns t)) (sym (subst (λ u. at_turn None ms u ≡ None) (same e) e) ∙ h.1)

-- every coin that is no new leaf of a request stays
abbrev Spared : ℕ → ℕ → Type 0
Spared R i = (r : ℕ) → r < R → i ≡ request_share * r → ⊥

spared_with : (R i : ℕ) (leaf : ℕ → ℕ) (c : List ℕ) → length c ≡ request_share * R → Spared R i → get_or (with_leaves leaf 0 c) i 0 ≡ get_or c i 0
spared_with R i leaf c l h = ⊎_elim first other (cases_eq (i % request_share) 0)
  where
    first : i % request_share ≡ 0 → get_or (with_leaves leaf 0 c) i 0 ≡ get_or c i 0
    first e = ⊎_elim near far (cases_lt (i / request_share) R)
      where
        near : i / request_share < R → get_or (with_leaves leaf 0 c) i 0 ≡ get_or c i 0
        near b = absurd (h (i / request_share) b (let q : i ≡ request_share * (i / request_share) = omega arith in q))

        far : R ≤ i / request_share → get_or (with_leaves leaf 0 c) i 0 ≡ get_or c i 0
        far b =
            let k = with_length leaf 0 c in
            get_or_past (with_leaves leaf 0 c) i 0 (omega arith) ∙ sym (get_or_past c i 0 (omega arith))

    other : (i % request_share ≡ 0 → ⊥) → get_or (with_leaves leaf 0 c) i 0 ≡ get_or c i 0
    other n = with_other leaf 0 c i (λ e. n (let q : i % request_share ≡ 0 = omega arith in q))

stay_step : (R i t : ℕ) (o : Option ℕ) (ms : List (Option ℕ)) (c d : List ℕ) (cs ds : List (List ℕ)) → length ms ≡ length cs
    → length ds ≡ length cs → (((n : ℕ) → o ≡ Some n → Spared R i) → get_or d i 0 ≡ get_or c i 0)
    → ((Requested ms t → Spared R i) → get_or (at_turn [] ds t) i 0 ≡ get_or (at_turn [] cs t) i 0)
    → (Requested (o ∷ ms) t → Spared R i) → get_or (at_turn [] (d ∷ ds) t) i 0 ≡ get_or (at_turn [] (c ∷ cs) t) i 0
stay_step R i t o ms c d cs ds l k head ih h = ⊎_elim last before (cases_eq t (length cs))
  where
    last : t ≡ length cs → get_or (at_turn [] (d ∷ ds) t) i 0 ≡ get_or (at_turn [] (c ∷ cs) t) i 0
    last e =
        ap (λ a. get_or a i 0) (at_last [] d ds t (e ∙ sym k))
        ∙ (head (λ n j. h (n, at_last None o ms t (e ∙ sym l) ∙ j)) ∙ sym (ap (λ a. get_or a i 0) (at_last [] c cs t e)))

    before : (t ≡ length cs → ⊥) → get_or (at_turn [] (d ∷ ds) t) i 0 ≡ get_or (at_turn [] (c ∷ cs) t) i 0
    before n =
        ap (λ a. get_or a i 0) (at_before [] d ds t (λ e. n (e ∙ k)))
        ∙ (ih (λ q. h (q.0, at_before None o ms t (λ e. n (e ∙ l)) ∙ q.1)) ∙ sym (ap (λ a. get_or a i 0) (at_before [] c cs t n)))

replaced_long : (L : ℕ → List ℕ) (ns : List (Option ℕ)) (cs : List (List ℕ)) → length (replaced L ns cs) ≡ length cs
replaced_long L ns cs =
    sym (length-map (replaced L ns cs) length) ∙ (ap length (replaced_shape L ns cs) ∙ length-map cs length)

asked_long : {R k : ℕ} {ds es : List Deed} {cs : List (List ℕ)} → Paired R k ds es cs → length (asked ds) ≡ length cs
asked_long begun = refl
asked_long (both_rest c w) = ap suc (asked_long w)
asked_long (both_open c l w) = ap suc (asked_long w)
asked_long (both_ask m n c p q l w) = ap suc (asked_long w)
asked_long (both_drain c w) = ap suc (asked_long w)
asked_long (both_tear c w) = ap suc (asked_long w)

replaced_stays : (R i t : ℕ) {k : ℕ} {ds es : List Deed} {cs : List (List ℕ)} → Paired R k ds es cs → (L : ℕ → List ℕ)
    → (Requested (asked ds) t → Spared R i) → get_or (at_turn [] (replaced L (asked es) cs) t) i 0 ≡ get_or (at_turn [] cs t) i 0
replaced_stays R i t begun L h = refl
replaced_stays R i t (both_rest {ds = ds} {es = es} {cs = cs} c w) L h =
    let M : ℕ → List ℕ = λ j. drop 1 (L j) in
    stay_step R i t None (asked ds) c c cs (replaced M (asked es) cs) (asked_long w) (replaced_long M (asked es) cs) (λ _. refl)
    (replaced_stays R i t w M) h
replaced_stays R i t (both_open {k = k} {ds = ds} {es = es} {cs = cs} c l w) L h =
    let M : ℕ → List ℕ = λ j. drop 1 (L j) in
    stay_step R i t (Some k) (asked ds) c (with_leaves (λ j. get_or (L j) 0 0) 0 c) cs (replaced M (asked es) cs) (asked_long w)
    (replaced_long M (asked es) cs) (λ s. spared_with R i (λ j. get_or (L j) 0 0) c l (s k refl)) (replaced_stays R i t w M) h
replaced_stays R i t (both_ask {ds = ds} {es = es} {cs = cs} m n c p q l w) L h =
    let M : ℕ → List ℕ = λ j. drop 1 (L j) in
    stay_step R i t (Some m) (asked ds) c (with_leaves (λ j. get_or (L j) 0 0) 0 c) cs (replaced M (asked es) cs) (asked_long w)
    (replaced_long M (asked es) cs) (λ s. spared_with R i (λ j. get_or (L j) 0 0) c l (s m refl)) (replaced_stays R i t w M) h
replaced_stays R i t (both_drain {ds = ds} {es = es} {cs = cs} c w) L h =
    let M : ℕ → List ℕ = λ j. drop 1 (L j) in
    stay_step R i t None (asked ds) c c cs (replaced M (asked es) cs) (asked_long w) (replaced_long M (asked es) cs) (λ _. refl)
    (replaced_stays R i t w M) h
replaced_stays R i t (both_tear {ds = ds} {es = es} {cs = cs} c w) L h =
    let M : ℕ → List ℕ = λ j. drop 1 (L j) in
    stay_step R i t None (asked ds) c c cs (replaced M (asked es) cs) (asked_long w) (replaced_long M (asked es) cs) (λ _. refl)
    (replaced_stays R i t w M) h

-- a row's new leaf at a turn
pub leaf_at : (r : ℕ) (cs : List (List ℕ)) (t : ℕ) → new_leaf r (at_turn [] cs t) ≡ at_turn 0 (leaves_in r cs) t
leaf_at r cs t = sym (at_map (new_leaf r) [] cs t)

module _ (R : Type 0) (N : ℕ) (Ds : List ℕ) (h g : History R) (s : SideBySide R N Ds h g) where
  moved_rows : all_below N (requested_in g) ≡ true → (r : ℕ) → r < length Ds → RowMoves (requested_in h) (coins_of h) (moved (deeds h) (deeds g)) r (origin (numbers_in r (requested_in h)) (numbers_in r (requested_in g)))
  moved_rows b r l =
      record {
        to = origin ns ms;
        from_request = λ t q. from_row r (requested_in h) (origin ms ns t) (origin_request w t (asks t q));
        to_request = λ t q. from_row r (requested_in h) (origin ns ms t) (
            let a = asks t q in
            let c = same_request w t a.0 a.1 in
            let d = origin_request v t c in
            same_request v (origin ns ms t) d.0 d.1);
        to_from = λ t q. let e = (origin_of v t (here t q)).1 in let i : origin ns ms (origin ms ns t) ≡ t = ap (λ (n : ℕ). n - 1) e ∙ less t in i;
        from_to = λ t q. let e = (origin_of w t (there t q)).1 in let i : origin ms ns (origin ns ms t) ≡ t = ap (λ (n : ℕ). n - 1) e ∙ less t in i;
        moves = λ cs e t q.
            let u = paired R N Ds h g s b cs e in
            let o = row_of (length Ds) r u in
            leaf_at r (moved (deeds h) (deeds g) cs) t
            ∙ (ap (λ l. at_turn 0 l t) (moved_column (length Ds) r l u)
            ∙ (natural_at o t
            ∙ (ap (stamp_at (leaves_in r cs)) (origin_of v t (here t q)).0 ∙ sym (leaf_at r cs (origin ms ns t)))));
      }
    where
      ms : List (Option ℕ)
      ms = numbers_in r (requested_in h)

      ns : List (Option ℕ)
      ns = numbers_in r (requested_in g)

      w : Both (numbers_in r (requested_in h)) (numbers_in r (requested_in g)) (leaves_in r (coins_of h))
      w = row_of (length Ds) r (paired R N Ds h g s b (coins_of h) refl)

      v : Both (numbers_in r (requested_in g)) (numbers_in r (requested_in h)) (row_given (numbers_in r (requested_in h)) (numbers_in r (requested_in g)) (leaves_in r (coins_of h)))
      v = turned (latest (numbers_in r (requested_in h)) (leaves_in r (coins_of h))) w

      asks : (t : ℕ) → Requested (requested_in h) t → Requested (numbers_in r (requested_in h)) t
      asks t q = (row_number r q.0, in_row r (requested_in h) t q.0 q.1)

      there : (t : ℕ) → Requested (requested_in h) t → t < length (numbers_in r (requested_in h))
      there t q = asked_in (numbers_in r (requested_in h)) t (asks t q).0 (asks t q).1

      here : (t : ℕ) → Requested (requested_in h) t → t < length (numbers_in r (requested_in g))
      here t q = let a = there t q in let b = same_long w in omega arith

      less : (t : ℕ) → suc t - 1 ≡ t
      less t = omega arith

  pub leaves_move : LeavesMove R N Ds h g
  leaves_move =
      record {
        rows = λ r l. rows (all_below N (requested_in g)) refl r l;
        stays = λ cs e t i q. stays (all_below N (requested_in g)) refl cs e t i q;
      }
    where
      rows : (b : Bool) → all_below N (requested_in g) ≡ b → (r : ℕ) → r < length Ds
          → RowMoves (requested_in h) (coins_of h) (λ cs. cond b (moved (deeds h) (deeds g) cs) cs) r
          (λ t. cond b (origin (numbers_in r (requested_in h)) (numbers_in r (requested_in g)) t) t)
      rows true e r l = moved_rows e r l
      rows false e r l =
          record {
            to = λ t. t;
            from_request = λ t q. q;
            to_request = λ t q. q;
            to_from = λ t q. refl;
            from_to = λ t q. refl;
            moves = λ cs e t q. refl;
          }

      stays : (b : Bool) → all_below N (requested_in g) ≡ b → (cs : List (List ℕ)) → SameShape cs (coins_of h) → (t i : ℕ)
          → (Requested (requested_in h) t → (r : ℕ) → r < length Ds → i ≡ request_share * r → ⊥)
          → get_or (at_turn [] (cond b (moved (deeds h) (deeds g) cs) cs) t) i 0 ≡ get_or (at_turn [] cs t) i 0
      stays true e cs p t i q =
          replaced_stays (length Ds) i t (paired R N Ds h g s e cs p)
          (λ r. row_given (numbers_in r (requested_in h)) (numbers_in r (requested_in g)) (leaves_in r cs)) q
      stays false e cs p t i q = refl

pub leaves_only_move : (R : Type 0) → LeavesOnlyMove R
leaves_only_move R N Ds h g s = leaves_move R N Ds h g s
