-- The relabelled leaves are those with the same next showing.
use Rattle.std.proofs.Common.{◌≡◌, ℕ, ◌*◌, ◌/◌, ◌%◌, ◌<◌, Bool, true, false, cond, eqb, ◌⊎◌, List, [], ◌∷◌, map, length, get_or, Some, None, Option, sym, refl, ap, ◌∙◌, subst, ap₂, ⊎_elim, arith}
use Rattle.std.proofs.lemmas.List.{length-map, ext_get_or}
use Rattle.std.proofs.lemmas.Bool.{both_ways, eqb-true, eqb-false, eq-eqb, ne_eqb, cond-true, cond-false, cases_eq, cases_lt}
use Rattle.history.specs.Histories.{History, deeds, coins_of, row_number, numbers_in, latest, new_leaf, request_share}
use Rattle.history.specs.Secrecy.{settled, given, row_given, all_below, requested_in, relabelled_for, SideBySide, SameShape, at_turn, Asked, Requested, Showing, shown_at, kept_for, NextShowing, IsRelabelled, ByNextShowing, RelabelledByNextShowing}
use Rattle.history.proofs.Rows.{ever, Both, start, still, fresh, again, same_ever, due_shown, fresh_same, again_same}
use Rattle.history.proofs.Coins.{row_of, moved, moved_column, replaced_shape}
use Rattle.history.proofs.Turns.{at_last, at_before, at_past, asked_in, in_row}
use Rattle.history.proofs.Moves.{same_long, first_long, second_long, given_long, none_asks, same_request, leaf_at, leaves_move}
use Rattle.history.proofs.Pairs.{paired}

-- what is asked at an earlier turn does not depend on the latest
later : (o : Option ℕ) (ms : List (Option ℕ)) (t n : ℕ) → Asked ms t n → Asked (o ∷ ms) t n
later o ms t n h = let b = asked_in ms t n h in at_before None o ms t (λ e. omega arith) ∙ h

earlier : (o : Option ℕ) (ms : List (Option ℕ)) (t n : ℕ) → (t ≡ length ms → ⊥) → Asked (o ∷ ms) t n → Asked ms t n
earlier o ms t n k h = sym (at_before None o ms t k) ∙ h

at_head : (o : Option ℕ) (ms : List (Option ℕ)) (t n : ℕ) → t ≡ length ms → Asked (o ∷ ms) t n → o ≡ Some n
at_head o ms t n e h = sym (at_last None o ms t e) ∙ h

asked_ever : (ms : List (Option ℕ)) (t n : ℕ) → Asked ms t n → ever ms n ≡ true
asked_ever [] t n h = none_asks n (false ≡ true) h
asked_ever (None ∷ ms) t n h =
    asked_ever ms t n (earlier None ms t n (λ e. none_asks n ⊥ (at_head None ms t n e h)) h)
asked_ever (Some m ∷ ms) t n h = go (asked_ever ms t n) (cases_eq t (length ms))
  where
    step : (b : Bool) → ever ms n ≡ true → cond b true (ever ms n) ≡ true
    step true e = refl
    step false e = e

    go : (Asked ms t n → ever ms n ≡ true) → (t ≡ length ms) ⊎ (t ≡ length ms → ⊥) → ever (Some m ∷ ms) n ≡ true
    go ih c =
        ⊎_elim
        (λ e. let k = at_head (Some m) ms t n e h in let q : m ≡ n = cc in cond-true (eqb m n) true (ever ms n) (eq-eqb m n q))
        (λ k. step (eqb m n) (ih (earlier (Some m) ms t n k h))) c

-- the latest leaf for n is that of the last turn that asks n
latest_turn : (ms : List (Option ℕ)) (xs : List ℕ) (t n : ℕ) → length ms ≡ length xs → Asked ms t n
    → ((v : ℕ) → t < v → Asked ms v n → ⊥) → latest ms xs n ≡ at_turn 0 xs t
latest_turn [] xs t n l h last = none_asks n (0 ≡ at_turn 0 xs t) h
latest_turn (o ∷ ms) [] t n l h last = absurd (let z : ⊥ = omega arith in z)
latest_turn (None ∷ ms) (x ∷ xs) t n l h last =
    let k : t ≡ length ms → ⊥ = λ e. none_asks n ⊥ (at_head None ms t n e h) in
    latest_turn ms xs t n (let q : length ms ≡ length xs = omega arith in q) (earlier None ms t n k h)
    (λ v b a. last v b (later None ms v n a))
    ∙ sym (at_before 0 x xs t (λ e. k (let q : t ≡ length ms = omega arith in q)))
latest_turn (Some m ∷ ms) (x ∷ xs) t n l h last =
    ⊎_elim here
    (before (λ a. latest_turn ms xs t n (let q : length ms ≡ length xs = omega arith in q) a (λ v b a. last v b (later (Some m) ms v n a))))
    (cases_eq t (length ms))
  where
    here : t ≡ length ms → cond (eqb m n) x (latest ms xs n) ≡ at_turn 0 (x ∷ xs) t
    here e =
        let k = at_head (Some m) ms t n e h in
        let q : m ≡ n = cc in
        cond-true (eqb m n) x (latest ms xs n) (eq-eqb m n q)
        ∙ sym (at_last 0 x xs t (let i : t ≡ length xs = omega arith in i))

    before : (Asked ms t n → latest ms xs n ≡ at_turn 0 xs t) → (t ≡ length ms → ⊥)
        → cond (eqb m n) x (latest ms xs n) ≡ at_turn 0 (x ∷ xs) t
    before ih k =
        let a = earlier (Some m) ms t n k h in
        let b = asked_in ms t n a in
        cond-false (eqb m n) x (latest ms xs n)
        (ne_eqb m n (λ q. last (length ms) b (at_last None (Some m) ms (length ms) refl ∙ ap Some q)))
        ∙ (ih a ∙ sym (at_before 0 x xs t (λ e. k (let i : t ≡ length ms = omega arith in i))))

-- what the row shows at turn u
abbrev turn_shows : List (Option ℕ) → List ℕ → ℕ → ℕ
turn_shows [] xs u = 0
turn_shows (o ∷ ms) [] u = 0
turn_shows (None ∷ ms) (x ∷ xs) u = turn_shows ms xs u
turn_shows (Some m ∷ ms) (x ∷ xs) u = cond (eqb u (length ms)) (latest ms xs m) (turn_shows ms xs u)

both_show : (u k l a b c d : ℕ) → k ≡ l → a ≡ b → c ≡ d → cond (eqb u k) a c ≡ cond (eqb u l) b d
both_show u k l a b c d e f g = ap (λ n. cond (eqb u n) a c) e ∙ ap₂ (λ (x y : ℕ). cond (eqb u l) x y) f g

same_turns : {ms ns : List (Option ℕ)} {xs : List ℕ} → (due : ℕ → ℕ) → Both ms ns xs → (u : ℕ)
    → turn_shows ms xs u ≡ turn_shows ns (given due ms ns xs) u
same_turns due start u = refl
same_turns due (still x w) u = same_turns due w u
same_turns due (fresh {ms = ms} {ns = ns} {xs = xs} a x p q w) u =
    let due' = settled due a (latest ms xs a) in
    both_show u (length ms) (length ns) (latest ms xs a) (latest ns (given due' ms ns xs) a) (turn_shows ms xs u)
    (turn_shows ns (given due' ms ns xs) u) (same_long w) (fresh_same due' a p q w) (same_turns due' w u)
same_turns due (again {ms = ms} {ns = ns} {xs = xs} a b x p q w) u =
    let due' = settled due b (latest ms xs a) in
    both_show u (length ms) (length ns) (latest ms xs a) (latest ns (given due' ms ns xs) b) (turn_shows ms xs u)
    (turn_shows ns (given due' ms ns xs) u) (same_long w) (again_same due a b q w) (same_turns due' w u)

-- a leaf shown next at u is what the row shows at u
shown_turn : (ms : List (Option ℕ)) (xs : List ℕ) (t u n : ℕ) → length ms ≡ length xs → t < u → Asked ms t n → Asked ms u n
    → ((v : ℕ) → t < v → v < u → Asked ms v n → ⊥) → turn_shows ms xs u ≡ at_turn 0 xs t
shown_turn [] xs t u n l b h i last = none_asks n (0 ≡ at_turn 0 xs t) h
shown_turn (o ∷ ms) [] t u n l b h i last = absurd (let z : ⊥ = omega arith in z)
shown_turn (None ∷ ms) (x ∷ xs) t u n l b h i last =
    let k : u ≡ length ms → ⊥ = λ e. none_asks n ⊥ (at_head None ms u n e i) in
    let i' = earlier None ms u n k i in
    let c = asked_in ms u n i' in
    let j : t ≡ length ms → ⊥ = λ e. omega arith in
    shown_turn ms xs t u n (let q : length ms ≡ length xs = omega arith in q) b (earlier None ms t n j h) i'
    (λ v p q a. last v p q (later None ms v n a))
    ∙ sym (at_before 0 x xs t (λ e. j (let q : t ≡ length ms = omega arith in q)))
shown_turn (Some m ∷ ms) (x ∷ xs) t u n l b h i last =
    ⊎_elim here
    (before (λ a c. shown_turn ms xs t u n (let q : length ms ≡ length xs = omega arith in q) b a c (λ v p q a. last v p q (later (Some m) ms v n a))))
    (cases_eq u (length ms))
  where
    here : u ≡ length ms → cond (eqb u (length ms)) (latest ms xs m) (turn_shows ms xs u) ≡ at_turn 0 (x ∷ xs) t
    here e =
        let k = at_head (Some m) ms u n e i in
        let q : m ≡ n = cc in
        let j : t ≡ length ms → ⊥ = λ z. omega arith in
        cond-true (eqb u (length ms)) (latest ms xs m) (turn_shows ms xs u) (eq-eqb u (length ms) e)
        ∙ (ap (latest ms xs) q
        ∙ (latest_turn ms xs t n (let y : length ms ≡ length xs = omega arith in y) (earlier (Some m) ms t n j h)
        (λ v p a. last v p (let y : v < u = let c = asked_in ms v n a in omega arith in y) (later (Some m) ms v n a))
        ∙ sym (at_before 0 x xs t (λ z. j (let y : t ≡ length ms = omega arith in y)))))

    before : (Asked ms t n → Asked ms u n → turn_shows ms xs u ≡ at_turn 0 xs t) → (u ≡ length ms → ⊥)
        → cond (eqb u (length ms)) (latest ms xs m) (turn_shows ms xs u) ≡ at_turn 0 (x ∷ xs) t
    before ih k =
        let i' = earlier (Some m) ms u n k i in
        let c = asked_in ms u n i' in
        let j : t ≡ length ms → ⊥ = λ z. omega arith in
        cond-false (eqb u (length ms)) (latest ms xs m) (turn_shows ms xs u) (ne_eqb u (length ms) k)
        ∙ (ih (earlier (Some m) ms t n j h) i' ∙ sym (at_before 0 x xs t (λ z. j (let y : t ≡ length ms = omega arith in y))))

-- the same next showing, the same leaf
same_leaf : {ms ns : List (Option ℕ)} {xs : List ℕ} → Both ms ns xs → (t u : ℕ) (s : Showing) → NextShowing ns t s → NextShowing ms u s
    → at_turn 0 (row_given ms ns xs) t ≡ at_turn 0 xs u
same_leaf {ms} {ns} {xs} w t u (shown_at v) p q =
    let l : length ns ≡ length (row_given ms ns xs) = second_long w ∙ sym (given_long (latest ms xs) w) in
    sym (shown_turn ns (row_given ms ns xs) t v p.1.0 l p.0 p.1.1 p.1.2 p.1.3)
    ∙ (sym (same_turns (latest ms xs) w v)
    ∙ shown_turn ms xs u v q.1.0 (first_long w) q.0 q.1.1 q.1.2 q.1.3)
same_leaf {ms} {ns} {xs} w t u (kept_for n) p q =
    let l : length ns ≡ length (row_given ms ns xs) = second_long w ∙ sym (given_long (latest ms xs) w) in
    sym (latest_turn ns (row_given ms ns xs) t n l p.0 p.1)
    ∙ (due_shown (latest ms xs) w n (asked_ever ns t n p.0) ∙ latest_turn ms xs u n (first_long w) q.0 q.1)

-- one turn more
lift_shown : (o : Option ℕ) (ms : List (Option ℕ)) (t u : ℕ) → NextShowing ms t (shown_at u) → NextShowing (o ∷ ms) t (shown_at u)
lift_shown o ms t u p =
    let n = p.1.0 in
    let b = asked_in ms u n p.1.2 in (
      p.0,
      (
        n,
        later o ms t n p.1.1,
        later o ms u n p.1.2,
        λ v c d a. p.1.3 v c d (earlier o ms v n (λ e. omega arith) a),
      ),
    )

-- the last turn that asks n becomes a showing at the latest turn, which asks n again
shown_last : (ms : List (Option ℕ)) (t n : ℕ) → Asked ms t n → ((v : ℕ) → t < v → Asked ms v n → ⊥)
    → NextShowing (Some n ∷ ms) t (shown_at (length ms))
shown_last ms t n a last = (
  asked_in ms t n a,
  (
    n,
    later (Some n) ms t n a,
    at_last None (Some n) ms (length ms) refl,
    λ v c d b. last v c (earlier (Some n) ms v n (λ e. omega arith) b),
  ),
)

kept_more : (o : Option ℕ) (ms : List (Option ℕ)) (t n : ℕ) → (o ≡ Some n → ⊥) → Asked ms t n → ((v : ℕ) → t < v → Asked ms v n → ⊥)
    → NextShowing (o ∷ ms) t (kept_for n)
kept_more o ms t n k a last = (later o ms t n a, λ v c b. ⊎_elim (λ e. k (at_head o ms v n e b)) (λ j. last v c (earlier o ms v n j b)) (cases_eq v (length ms)))

-- every request has a next showing
next_step : (o : Option ℕ) (ms : List (Option ℕ)) (t : ℕ) (s : Showing) → NextShowing ms t s → (z : Showing) × NextShowing (o ∷ ms) t z
next_step o ms t (shown_at u) p = (shown_at u, lift_shown o ms t u p)
next_step None ms t (kept_for n) p = (kept_for n, kept_more None ms t n (λ e. none_asks n ⊥ e) p.0 p.1)
next_step (Some m) ms t (kept_for n) p = go (cases_eq m n)
  where
    go : (m ≡ n) ⊎ (m ≡ n → ⊥) → (z : Showing) × NextShowing (Some m ∷ ms) t z
    go c =
        ⊎_elim
        (λ e. (shown_at (length ms), subst (λ k. NextShowing (Some k ∷ ms) t (shown_at (length ms))) (sym e) (shown_last ms t n p.0 p.1)))
        (λ k. (kept_for n, kept_more (Some m) ms t n (λ e. k (let q : m ≡ n = cc in q)) p.0 p.1)) c

next_of : (ms : List (Option ℕ)) (t n : ℕ) → Asked ms t n → (s : Showing) × NextShowing ms t s
next_of [] t n h = none_asks n ((s : Showing) × NextShowing [] t s) h
next_of (o ∷ ms) t n h = ⊎_elim here (before (next_of ms t n)) (cases_eq t (length ms))
  where
    here : t ≡ length ms → (s : Showing) × NextShowing (o ∷ ms) t s
    here e = (kept_for n, (h, λ v c b. let d = asked_in (o ∷ ms) v n b in absurd (let z : ⊥ = omega arith in z)))

    before : (Asked ms t n → (s : Showing) × NextShowing ms t s) → (t ≡ length ms → ⊥) → (s : Showing) × NextShowing (o ∷ ms) t s
    before ih k = let q = ih (earlier o ms t n k h) in next_step o ms t q.0 q.1

-- the last turn that asks n
last_turn : (ms : List (Option ℕ)) (n : ℕ) → ever ms n ≡ true → (u : ℕ) × NextShowing ms u (kept_for n)
last_turn [] n h = absurd (both_ways false refl h)
last_turn (None ∷ ms) n h = let q = last_turn ms n h in (q.0, kept_more None ms q.0 n (λ e. none_asks n ⊥ e) q.1.0 q.1.1)
last_turn (Some m ∷ ms) n h = go (eqb m n) refl h (last_turn ms n)
  where
    go : (b : Bool) → eqb m n ≡ b → cond b true (ever ms n) ≡ true → (ever ms n ≡ true → (u : ℕ) × NextShowing ms u (kept_for n))
        → (u : ℕ) × NextShowing (Some m ∷ ms) u (kept_for n)
    go true e k ih = (
      length ms,
      (
        at_last None (Some m) ms (length ms) refl ∙ ap Some (eqb-true m n e),
        λ v c b. let d = asked_in (Some m ∷ ms) v n b in absurd (let z : ⊥ = omega arith in z),
      ),
    )
    go false e k ih =
        let q = ih k in
        (q.0, kept_more (Some m) ms q.0 n (λ i. eqb-false m n e (let j : m ≡ n = cc in j)) q.1.0 q.1.1)

-- a turn at which the second shows a leaf is one at which the first does
first_shows : {ms ns : List (Option ℕ)} {xs : List ℕ} → Both ms ns xs → (t u n : ℕ) → t < u → Asked ns t n → Asked ns u n
    → (v : ℕ) × NextShowing ms v (shown_at u)
first_shows start t u n b h i = none_asks n ((v : ℕ) × NextShowing [] v (shown_at u)) h
first_shows (still {ms = ms} {ns = ns} x w) t u n b h i =
    let k : u ≡ length ns → ⊥ = λ e. none_asks n ⊥ (at_head None ns u n e i) in
    let i' = earlier None ns u n k i in
    let c = asked_in ns u n i' in
    let q = first_shows w t u n b (earlier None ns t n (λ e. omega arith) h) i' in
    (q.0, lift_shown None ms q.0 u q.1)
first_shows (fresh {ms = ms} {ns = ns} a x p r w) t u n b h i = ⊎_elim here (before (first_shows w t u n b)) (cases_eq u (length ns))
  where
    here : u ≡ length ns → (v : ℕ) × NextShowing (Some a ∷ ms) v (shown_at u)
    here e =
        let k = at_head (Some a) ns u n e i in
        let q : n ≡ a = cc in
        let j = asked_ever ns t n (earlier (Some a) ns t n (λ z. omega arith) h) in
        absurd (both_ways (ever ns a) r (sym (ap (ever ns) q) ∙ j))

    before : (Asked ns t n → Asked ns u n → (v : ℕ) × NextShowing ms v (shown_at u)) → (u ≡ length ns → ⊥)
        → (v : ℕ) × NextShowing (Some a ∷ ms) v (shown_at u)
    before ih k =
        let i' = earlier (Some a) ns u n k i in
        let c = asked_in ns u n i' in
        let q = ih (earlier (Some a) ns t n (λ e. omega arith) h) i' in
        (q.0, lift_shown (Some a) ms q.0 u q.1)
first_shows (again {ms = ms} {ns = ns} a d x p r w) t u n b h i = ⊎_elim here (before (first_shows w t u n b)) (cases_eq u (length ns))
  where
    here : u ≡ length ns → (v : ℕ) × NextShowing (Some a ∷ ms) v (shown_at u)
    here e =
        let q = last_turn ms a p in
        (q.0, subst (λ k. NextShowing (Some a ∷ ms) q.0 (shown_at k)) (same_long w ∙ sym e) (shown_last ms q.0 a q.1.0 q.1.1))

    before : (Asked ns t n → Asked ns u n → (v : ℕ) × NextShowing ms v (shown_at u)) → (u ≡ length ns → ⊥)
        → (v : ℕ) × NextShowing (Some a ∷ ms) v (shown_at u)
    before ih k =
        let i' = earlier (Some d) ns u n k i in
        let c = asked_in ns u n i' in
        let q = ih (earlier (Some d) ns t n (λ e. omega arith) h) i' in
        (q.0, lift_shown (Some a) ms q.0 u q.1)

-- every next showing of the second occurs in the first
same_showing : {ms ns : List (Option ℕ)} {xs : List ℕ} → Both ms ns xs → (t : ℕ) (s : Showing) → NextShowing ns t s
    → (u : ℕ) × NextShowing ms u s
same_showing w t (shown_at u) p = first_shows w t u p.1.0 p.0 p.1.1 p.1.2
same_showing {ms} {ns} w t (kept_for n) p = last_turn ms n (same_ever w n ∙ asked_ever ns t n p.0)

-- coins that agree at every turn and place are the same
same_coins : (ys zs : List (List ℕ)) → SameShape ys zs → ((t i : ℕ) → get_or (at_turn [] ys t) i 0 ≡ get_or (at_turn [] zs t) i 0) → ys ≡ zs
same_coins [] [] l h = refl
same_coins [] (z ∷ zs) l h = absurd (let e : ◌≡◌ {A = ℕ} 0 1 = cc in omega arith)
same_coins (y ∷ ys) [] l h = absurd (let e : ◌≡◌ {A = ℕ} 0 1 = cc in omega arith)
same_coins (y ∷ ys) (z ∷ zs) l h = ap₂ ◌∷◌ head (same_coins ys zs shape rest)
  where
    shape : SameShape ys zs
    shape = cc

    long : length ys ≡ length zs
    long = sym (length-map ys length) ∙ (ap length shape ∙ length-map zs length)

    head : y ≡ z
    head =
        let k : length y ≡ length z = cc in
        ext_get_or 0 y z k
        (λ i b. ap (λ c. get_or c i 0) (sym (at_last [] y ys (length ys) refl))
        ∙ (h (length ys) i ∙ ap (λ c. get_or c i 0) (at_last [] z zs (length ys) long)))

    rest : (t i : ℕ) → get_or (at_turn [] ys t) i 0 ≡ get_or (at_turn [] zs t) i 0
    rest t i = ⊎_elim last before (cases_eq t (length ys))
      where
        last : t ≡ length ys → get_or (at_turn [] ys t) i 0 ≡ get_or (at_turn [] zs t) i 0
        last e = ap (λ c. get_or c i 0) (at_past [] ys t (omega arith) ∙ sym (at_past [] zs t (omega (arith, long))))

        before : (t ≡ length ys → ⊥) → get_or (at_turn [] ys t) i 0 ≡ get_or (at_turn [] zs t) i 0
        before n =
            ap (λ c. get_or c i 0) (sym (at_before [] y ys t n))
            ∙ (h t i ∙ ap (λ c. get_or c i 0) (at_before [] z zs t (λ e. n (e ∙ sym long))))

module _ (R : Type 0) (N : ℕ) (Ds : List ℕ) (h g : History R) (s : SideBySide R N Ds h g) where
  occurs : all_below N (requested_in g) ≡ true → (r t : ℕ) → r < length Ds → Requested (requested_in h) t
      → (z : Showing) × NextShowing (numbers_in r (requested_in g)) t z × ((u : ℕ) × NextShowing (numbers_in r (requested_in h)) u z)
  occurs b r t l q =
      let w = row_of (length Ds) r (paired R N Ds h g s b (coins_of h) refl) in
      let a = same_request w t (row_number r q.0) (in_row r (requested_in h) t q.0 q.1) in
      let n = next_of (numbers_in r (requested_in g)) t a.0 a.1 in
      (n.0, n.1, same_showing w t n.0 n.1)

  they_are : all_below N (requested_in g) ≡ true → (cs : List (List ℕ)) → SameShape cs (coins_of h)
      → IsRelabelled R Ds h g cs (relabelled_for N h g cs)
  they_are b cs e =
      let is : relabelled_for N h g cs ≡ moved (deeds h) (deeds g) cs =
      cond-true (all_below N (requested_in g)) (moved (deeds h) (deeds g) cs) cs b in
      record {
        shape = ap (map length) is ∙ replaced_shape _ (requested_in g) cs;
        leaves = λ r t u z l p q.
            let w = paired R N Ds h g s b cs e in
            ap (λ c. new_leaf r (at_turn [] c t)) is
            ∙ (leaf_at r (moved (deeds h) (deeds g) cs) t
            ∙ (ap (λ c. at_turn 0 c t) (moved_column (length Ds) r l w)
            ∙ (same_leaf (row_of (length Ds) r w) t u z p q ∙ sym (leaf_at r cs u))));
        stays = λ t i q. (leaves_move R N Ds h g s).stays cs e t i q;
      }

  -- two that are so described agree at every coin
  agree : all_below N (requested_in g) ≡ true → (cs ys zs : List (List ℕ)) → IsRelabelled R Ds h g cs ys → IsRelabelled R Ds h g cs zs
      → (t i : ℕ) → get_or (at_turn [] ys t) i 0 ≡ get_or (at_turn [] zs t) i 0
  agree b cs ys zs p q t i = go (at_turn None (requested_in h) t) refl
    where
      both_stay : (Requested (requested_in h) t → (r : ℕ) → r < length Ds → i ≡ request_share * r → ⊥)
          → get_or (at_turn [] ys t) i 0 ≡ get_or (at_turn [] zs t) i 0
      both_stay k = p.stays t i k ∙ sym (q.stays t i k)

      new : (r : ℕ) → r < length Ds → i ≡ request_share * r → Requested (requested_in h) t
          → get_or (at_turn [] ys t) i 0 ≡ get_or (at_turn [] zs t) i 0
      new r l e a =
          let o = occurs b r t l a in
          ap (get_at ys) e
          ∙ (p.leaves r t o.2.0 o.0 l o.1 o.2.1
          ∙ (sym (q.leaves r t o.2.0 o.0 l o.1 o.2.1) ∙ sym (ap (get_at zs) e)))
        where
          get_at : List (List ℕ) → ℕ → ℕ
          get_at l j = get_or (at_turn [] l t) j 0

      go : (o : Option ℕ) → at_turn None (requested_in h) t ≡ o → get_or (at_turn [] ys t) i 0 ≡ get_or (at_turn [] zs t) i 0
      go None e = both_stay (λ a. none_asks a.0 ((r : ℕ) → r < length Ds → i ≡ request_share * r → ⊥) (sym e ∙ a.1))
      go (Some n) e = ⊎_elim
          (λ c. ⊎_elim (λ l. new (i / request_share) l (let q : i ≡ request_share * (i / request_share) = omega arith in q) (n, e))
          (λ l. both_stay (λ a r k j. let z : ⊥ = omega arith in z)) (cases_lt (i / request_share) (length Ds)))
          (λ c. both_stay (λ a r k j. c (let q : i % request_share ≡ 0 = omega arith in q))) (cases_eq (i % request_share) 0)

  by_next_showing : ByNextShowing R N Ds h g
  by_next_showing =
      record {
        occurs = occurs;
        they_are = they_are;
        no_others = λ b cs ys e p.
            let q = they_are b cs e in
            same_coins ys (relabelled_for N h g cs) (p.shape ∙ sym q.shape) (agree b cs ys (relabelled_for N h g cs) p q);
        otherwise = λ b cs. cond-false (all_below N (requested_in g)) (moved (deeds h) (deeds g) cs) cs b;
      }

pub relabelled_by_next_showing : (R : Type 0) → RelabelledByNextShowing R
relabelled_by_next_showing R N Ds h g s = by_next_showing R N Ds h g s
