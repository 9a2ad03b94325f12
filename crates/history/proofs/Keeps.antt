-- Relabelling keeps what holds of every leaf of a row; it is one-to-one and onto.
use Rattle.std.proofs.Common.{◌≡◌, ℕ, suc, ◌+◌, ◌*◌, ◌/◌, ◌%◌, ◌^◌, ◌<◌, Bool, true, false, cond, eqb, List, [], ◌∷◌, length, get_or, drop, Some, None, Option, sym, refl, ap, ◌∙◌, subst, ⊎_elim, arith}
use Rattle.std.proofs.ByRecursion.{All-get_or}
use Rattle.std.proofs.lemmas.Bool.{both_ways, eqb-true, eq-eqb, cond-true, cases_eq}
use Rattle.std.specs.List.{AllByRecursion}
use Rattle.history.specs.Histories.{History, Deed, request, deeds, asked, coins_of, Leaves, request_share, new_leaf, numbers_in, leaves_in, latest}
use Rattle.history.specs.Secrecy.{settled, given, row_given, with_leaves, replaced, all_below, requested_in, relabelled_for, SideBySide, SameShape, Words, RangeOf, EachTurn, InRange, OneToOneOnto, Relabelling, RelabellingIsOneToOne}
use Rattle.history.proofs.Rows.{ever, Both, start, still, fresh, again, same_ever}
use Rattle.history.proofs.Coins.{Paired, begun, both_rest, both_open, both_ask, both_drain, both_tear, swapped, reshaped, row_of, with_length, with_other, new_with, moved, moved_back, replaced_shape}
use Rattle.history.proofs.Pairs.{paired}

-- Q holds of each leaf that a request brought
abbrev pub AskedAll : (ℕ → Type 0) → List (Option ℕ) → List ℕ → Type 0
AskedAll Q [] xs = Unit {0}
AskedAll Q (None ∷ ms) xs = AskedAll Q ms (drop 1 xs)
AskedAll Q (Some m ∷ ms) xs = Q (get_or xs 0 0) × AskedAll Q ms (drop 1 xs)

latest_step : (Q : ℕ → Type 0) (a n x v : ℕ) (was : Bool) → Q x → (was ≡ true → Q v) → cond (eqb a n) true was ≡ true
    → Q (cond (eqb a n) x v)
latest_step Q a n x v was q ih h = go (eqb a n) h
  where
    go : (t : Bool) → cond t true was ≡ true → Q (cond t x v)
    go true e = q
    go false e = ih e

latest-all : (Q : ℕ → Type 0) {ms ns : List (Option ℕ)} {xs : List ℕ} → Both ms ns xs → AskedAll Q ms xs → (n : ℕ) → ever ms n ≡ true
    → Q (latest ms xs n)
latest-all Q start h n e = absurd (both_ways false refl e)
latest-all Q (still x w) h n e = latest-all Q w h n e
latest-all Q (fresh {ms = ms} {xs = xs} a x p q w) h n e = latest_step Q a n x (latest ms xs n) (ever ms n) h.0 (latest-all Q w h.1 n) e
latest-all Q (again {ms = ms} {xs = xs} a b x p q w) h n e = latest_step Q a n x (latest ms xs n) (ever ms n) h.0 (latest-all Q w h.1 n) e

due_all : (Q : ℕ → Type 0) (due : ℕ → ℕ) (ns : List (Option ℕ)) (b v : ℕ) → (ever ns b ≡ true → Q v)
    → ((n : ℕ) → ever (Some b ∷ ns) n ≡ true → Q (due n)) → (n : ℕ) → ever ns n ≡ true → Q (settled due b v n)
due_all Q due ns b v q h n e = go (eqb b n) refl (h n)
  where
    go : (t : Bool) → eqb b n ≡ t → (cond t true (ever ns n) ≡ true → Q (due n)) → Q (cond t v (due n))
    go true i k = q (ap (ever ns) (eqb-true b n i) ∙ e)
    go false i k = k e

due_head : (Q : ℕ → Type 0) (due : ℕ → ℕ) (ns : List (Option ℕ)) (b : ℕ)
    → ((n : ℕ) → ever (Some b ∷ ns) n ≡ true → Q (due n)) → Q (due b)
due_head Q due ns b h = h b (cond-true (eqb b b) true (ever ns b) (eq-eqb b b refl))

given-all : (Q : ℕ → Type 0) (due : ℕ → ℕ) {ms ns : List (Option ℕ)} {xs : List ℕ} → Both ms ns xs → AskedAll Q ms xs
    → ((n : ℕ) → ever ns n ≡ true → Q (due n)) → AskedAll Q ns (given due ms ns xs)
given-all Q due start h d = tt
given-all Q due (still x w) h d = given-all Q due w h d
given-all Q due (fresh {ms = ms} {ns = ns} {xs = xs} a x p q w) h d = (
  due_head Q due ns a d,
  given-all Q (settled due a (latest ms xs a)) w h.1
      (due_all Q due ns a (latest ms xs a) (λ e. absurd (both_ways (ever ns a) q e)) d),
)
given-all Q due (again {ms = ms} {ns = ns} {xs = xs} a b x p q w) h d = (
  due_head Q due ns b d,
  given-all Q (settled due b (latest ms xs a)) w h.1
      (due_all Q due ns b (latest ms xs a) (λ e. latest-all Q w h.1 a p) d),
)

pub row_all : (Q : ℕ → Type 0) {ms ns : List (Option ℕ)} {xs : List ℕ} → Both ms ns xs → AskedAll Q ms xs → AskedAll Q ns (row_given ms ns xs)
row_all Q {ms} {ns} {xs} w h = given-all Q (latest ms xs) w h (λ n e. latest-all Q w h n (same_ever w n ∙ e))

-- W holds of the coins of each turn; of a request that says Q r of the new leaf of each row r, and new leaves with Q may take their place
module _ (R : ℕ) (W : Deed → List ℕ → Type 0) (Q : ℕ → ℕ → Type 0)
    (same : (m n : ℕ) (c : List ℕ) → W (request m) c → W (request n) c)
    (says : (m r : ℕ) (c : List ℕ) → r < R → length c ≡ request_share * R → W (request m) c → Q r (new_leaf r c))
    (takes : (m : ℕ) (c : List ℕ) (leaf : ℕ → ℕ) → length c ≡ request_share * R → W (request m) c → ((r : ℕ) → r < R → Q r (leaf r))
    → W (request m) (with_leaves leaf 0 c)) where
  leaves_all : (r : ℕ) → r < R → {k : ℕ} {ds es : List Deed} {cs : List (List ℕ)} → Paired R k ds es cs → EachTurn W ds cs
      → AskedAll (Q r) (numbers_in r (asked ds)) (leaves_in r cs)
  leaves_all r b begun h = tt
  leaves_all r b (both_rest c w) h = leaves_all r b w h.1
  leaves_all r b (both_open {k = k} c l w) h = (says k r c b l h.0, leaves_all r b w h.1)
  leaves_all r b (both_ask m n c p q l w) h = (says m r c b l h.0, leaves_all r b w h.1)
  leaves_all r b (both_drain c w) h = leaves_all r b w h.1
  leaves_all r b (both_tear c w) h = leaves_all r b w h.1

  replaced_all : {k : ℕ} {ds es : List Deed} {cs : List (List ℕ)} → Paired R k ds es cs → EachTurn W ds cs → (L : ℕ → List ℕ)
      → ((r : ℕ) → r < R → AskedAll (Q r) (numbers_in r (asked es)) (L r)) → EachTurn W ds (replaced L (asked es) cs)
  replaced_all begun h L d = tt
  replaced_all (both_rest c w) h L d = (h.0, replaced_all w h.1 (λ i. drop 1 (L i)) d)
  replaced_all (both_open {k = k} c l w) h L d =
      (takes k c (λ i. get_or (L i) 0 0) l h.0 (λ r b. (d r b).0), replaced_all w h.1 (λ i. drop 1 (L i)) (λ r b. (d r b).1))
  replaced_all (both_ask m n c p q l w) h L d =
      (takes m c (λ i. get_or (L i) 0 0) l h.0 (λ r b. (d r b).0), replaced_all w h.1 (λ i. drop 1 (L i)) (λ r b. (d r b).1))
  replaced_all (both_drain c w) h L d = (h.0, replaced_all w h.1 (λ i. drop 1 (L i)) d)
  replaced_all (both_tear c w) h L d = (h.0, replaced_all w h.1 (λ i. drop 1 (L i)) d)

  across : {k : ℕ} {ds es : List Deed} {cs : List (List ℕ)} → Paired R k ds es cs → EachTurn W ds cs → EachTurn W es cs
  across begun h = tt
  across (both_rest c w) h = (h.0, across w h.1)
  across (both_open c l w) h = (h.0, across w h.1)
  across (both_ask m n c p q l w) h = (same m n c h.0, across w h.1)
  across (both_drain c w) h = (h.0, across w h.1)
  across (both_tear c w) h = (h.0, across w h.1)

  pub moved_all : {k : ℕ} {ds es : List Deed} {cs : List (List ℕ)} → Paired R k ds es cs → EachTurn W ds cs
      → EachTurn W ds (moved ds es cs)
  moved_all {k} {ds} {es} {cs} w h =
      replaced_all w h (λ r. row_given (numbers_in r (asked ds)) (numbers_in r (asked es)) (leaves_in r cs))
      (λ r b. row_all (Q r) (row_of R r w) (leaves_all r b w h))

  -- and so does relabelling back
  pub moved_all_back : {k : ℕ} {ds es : List Deed} {cs : List (List ℕ)} → Paired R k ds es cs → EachTurn W ds cs
      → EachTurn W ds (moved es ds cs)
  moved_all_back {k} {ds} {es} {cs} w h =
      let v = swapped R w in
      let u : EachTurn W es (moved es ds cs) = moved_all v (across w h) in
      across (reshaped R v (moved es ds cs) (replaced_shape (λ r. row_given (numbers_in r (asked es)) (numbers_in r (asked ds)) (leaves_in r cs)) (asked ds) cs)) u

-- words
with_all : (P : ℕ → Type 0) (leaf : ℕ → ℕ) (i : ℕ) (c : List ℕ) → AllByRecursion P c
    → ((j : ℕ) → j < length c → (i + j) % request_share ≡ 0 → P (leaf ((i + j) / request_share))) → AllByRecursion P (with_leaves leaf i c)
with_all P leaf i [] h d = tt
with_all P leaf i (x ∷ c) h d = (go (eqb (i % request_share) 0) refl, with_all P leaf (suc i) c h.1 more)
  where
    go : (b : Bool) → eqb (i % request_share) 0 ≡ b → P (cond b (leaf (i / request_share)) x)
    go true e =
        let z : i % request_share ≡ 0 = eqb-true _ _ e in
        let q : (i + 0) / request_share ≡ i / request_share = omega arith in
        subst (λ n. P (leaf n)) q (d 0 (omega arith) (omega arith))
    go false e = h.0

    more : (j : ℕ) → j < length c → (suc i + j) % request_share ≡ 0 → P (leaf ((suc i + j) / request_share))
    more j l e =
        let q : (i + suc j) / request_share ≡ (suc i + j) / request_share = omega arith in
        subst (λ n. P (leaf n)) q (d (suc j) (omega arith) (omega arith))

abbrev wordy : Deed → List ℕ → Type 0
wordy d c = AllByRecursion (λ x. x < 2 ^ 32) c

words_in : (ds : List Deed) (cs : List (List ℕ)) → Words cs → EachTurn wordy ds cs
words_in [] cs h = tt
words_in (d ∷ ds) [] h = tt
words_in (d ∷ ds) (c ∷ cs) h = (h.0, words_in ds cs h.1)

words_out : (ds : List Deed) (cs : List (List ℕ)) → length ds ≡ length cs → EachTurn wordy ds cs → Words cs
words_out [] [] l h = tt
words_out [] (c ∷ cs) l h = absurd (let z : ⊥ = omega arith in z)
words_out (d ∷ ds) [] l h = tt
words_out (d ∷ ds) (c ∷ cs) l h = (h.0, words_out ds cs (let q : length ds ≡ length cs = omega arith in q) h.1)

-- the lists are equally long
pub coins_long : {R k : ℕ} {ds es : List Deed} {cs : List (List ℕ)} → Paired R k ds es cs → length ds ≡ length cs
coins_long begun = refl
coins_long (both_rest c w) = ap suc (coins_long w)
coins_long (both_open c l w) = ap suc (coins_long w)
coins_long (both_ask m n c p q l w) = ap suc (coins_long w)
coins_long (both_drain c w) = ap suc (coins_long w)
coins_long (both_tear c w) = ap suc (coins_long w)

word_says : (R m r : ℕ) (c : List ℕ) → r < R → length c ≡ request_share * R → AllByRecursion (λ x. x < 2 ^ 32) c → new_leaf r c < 2 ^ 32
word_says R m r c b l h = All-get_or (λ x. x < 2 ^ 32) c (request_share * r) 0 (omega arith) h

word_takes : (R m : ℕ) (c : List ℕ) (leaf : ℕ → ℕ) → length c ≡ request_share * R → AllByRecursion (λ x. x < 2 ^ 32) c
    → ((r : ℕ) → r < R → leaf r < 2 ^ 32) → AllByRecursion (λ x. x < 2 ^ 32) (with_leaves leaf 0 c)
word_takes R m c leaf l h d = with_all (λ x. x < 2 ^ 32) leaf 0 c h (λ j b e. d ((0 + j) / request_share) (omega arith))

-- leaves of their rows
range_says : (Ds : List ℕ) (m r : ℕ) (c : List ℕ) → r < length Ds → length c ≡ request_share * length Ds → Leaves request_share Ds c
    → new_leaf r c < 2 ^ get_or Ds r 0
range_says Ds m r c b l h =
    let q : request_share * r + 0 ≡ request_share * r = omega arith in
    subst (λ i. get_or c i 0 < 2 ^ get_or Ds r 0) q (h.1 r 0 b (omega arith))

range_takes : (Ds : List ℕ) (m : ℕ) (c : List ℕ) (leaf : ℕ → ℕ) → length c ≡ request_share * length Ds → Leaves request_share Ds c
    → ((r : ℕ) → r < length Ds → leaf r < 2 ^ get_or Ds r 0) → Leaves request_share Ds (with_leaves leaf 0 c)
range_takes Ds m c leaf l h d = (with_length leaf 0 c ∙ l, at)
  where
    at : (r i : ℕ) → r < length Ds → i < request_share → get_or (with_leaves leaf 0 c) (request_share * r + i) 0 < 2 ^ get_or Ds r 0
    at r i b s = ⊎_elim first other (cases_eq i 0)
      where
        first : i ≡ 0 → get_or (with_leaves leaf 0 c) (request_share * r + i) 0 < 2 ^ get_or Ds r 0
        first e =
            let q : request_share * r ≡ request_share * r + i = omega arith in
            let n = new_with (length Ds) r leaf c b l in
            subst (λ j. get_or (with_leaves leaf 0 c) j 0 < 2 ^ get_or Ds r 0) q (subst (λ x. x < 2 ^ get_or Ds r 0) (sym n) (d r b))

        other : (i ≡ 0 → ⊥) → get_or (with_leaves leaf 0 c) (request_share * r + i) 0 < 2 ^ get_or Ds r 0
        other n =
            let o = with_other leaf 0 c (request_share * r + i) (λ e. n (omega arith)) in
            subst (λ x. x < 2 ^ get_or Ds r 0) (sym o) (h.1 r i b s)

-- a map with an inverse
bijective : (P : List (List ℕ) → Type 0) (f g : List (List ℕ) → List (List ℕ)) → ((cs : List (List ℕ)) → P cs → P (f cs))
    → ((cs : List (List ℕ)) → P cs → P (g cs)) → ((cs : List (List ℕ)) → P cs → g (f cs) ≡ cs) → ((cs : List (List ℕ)) → P cs → f (g cs) ≡ cs)
    → OneToOneOnto P f
bijective P f g into out gf fg =
    record {
      into = into;
      one_to_one = λ cs ds p q e. sym (gf cs p) ∙ (ap g e ∙ gf ds q);
      onto = λ ds p. (g ds, out ds p, fg ds p);
    }

module _ (R : Type 0) (N : ℕ) (Ds : List ℕ) (h g : History R) (s : SideBySide R N Ds h g) where
  -- where the second names only records below N, and otherwise
  either : (P : List (List ℕ) → Type 0)
      → (all_below N (requested_in g) ≡ true → OneToOneOnto P (moved (deeds h) (deeds g))) → OneToOneOnto P (relabelled_for N h g)
  either P t = go (all_below N (requested_in g)) t
    where
      go : (b : Bool) → (b ≡ true → OneToOneOnto P (moved (deeds h) (deeds g)))
          → OneToOneOnto P (λ cs. cond b (moved (deeds h) (deeds g) cs) cs)
      go true k = k refl
      go false k = bijective P (λ cs. cs) (λ cs. cs) (λ cs p. p) (λ cs p. p) (λ cs p. refl) (λ cs p. refl)

  with_more : (E : List (List ℕ) → Type 0) → (b : all_below N (requested_in g) ≡ true)
      → ((cs : List (List ℕ)) → SameShape cs (coins_of h) → E cs → E (moved (deeds h) (deeds g) cs))
      → ((cs : List (List ℕ)) → SameShape cs (coins_of h) → E cs → E (moved (deeds g) (deeds h) cs))
      → OneToOneOnto (λ cs. SameShape cs (coins_of h) × E cs) (moved (deeds h) (deeds g))
  with_more E b into out =
      bijective (λ cs. SameShape cs (coins_of h) × E cs) (moved (deeds h) (deeds g)) (moved (deeds g) (deeds h))
      (λ cs p. (replaced_shape _ (requested_in g) cs ∙ p.0, into cs p.0 p.1))
      (λ cs p. (replaced_shape _ (requested_in h) cs ∙ p.0, out cs p.0 p.1))
      (λ cs p. moved_back (length Ds) (paired R N Ds h g s b cs p.0))
      (λ cs p. moved_back (length Ds) (swapped (length Ds) (paired R N Ds h g s b cs p.0)))

  shape_only : all_below N (requested_in g) ≡ true → OneToOneOnto (λ cs. SameShape cs (coins_of h)) (moved (deeds h) (deeds g))
  shape_only b =
      bijective (λ cs. SameShape cs (coins_of h)) (moved (deeds h) (deeds g)) (moved (deeds g) (deeds h))
      (λ cs p. replaced_shape _ (requested_in g) cs ∙ p) (λ cs p. replaced_shape _ (requested_in h) cs ∙ p)
      (λ cs p. moved_back (length Ds) (paired R N Ds h g s b cs p))
      (λ cs p. moved_back (length Ds) (swapped (length Ds) (paired R N Ds h g s b cs p)))

  all_words : all_below N (requested_in g) ≡ true → OneToOneOnto (λ cs. SameShape cs (coins_of h) × Words cs) (moved (deeds h) (deeds g))
  all_words b = with_more Words b into out
    where
      into : (cs : List (List ℕ)) → SameShape cs (coins_of h) → Words cs → Words (moved (deeds h) (deeds g) cs)
      into cs e p =
          let w = paired R N Ds h g s b cs e in
          let sh : SameShape (moved (deeds h) (deeds g) cs) cs = replaced_shape _ (requested_in g) cs in
          words_out (deeds h) (moved (deeds h) (deeds g) cs) (coins_long (reshaped (length Ds) w (moved (deeds h) (deeds g) cs) sh))
          (moved_all (length Ds) wordy (λ r x. x < 2 ^ 32) (λ m n c q. q) (word_says (length Ds)) (word_takes (length Ds)) w (words_in (deeds h) cs p))

      out : (cs : List (List ℕ)) → SameShape cs (coins_of h) → Words cs → Words (moved (deeds g) (deeds h) cs)
      out cs e p =
          let w = paired R N Ds h g s b cs e in
          let sh : SameShape (moved (deeds g) (deeds h) cs) cs = replaced_shape _ (requested_in h) cs in
          words_out (deeds h) (moved (deeds g) (deeds h) cs) (coins_long (reshaped (length Ds) w (moved (deeds g) (deeds h) cs) sh))
          (moved_all_back (length Ds) wordy (λ r x. x < 2 ^ 32) (λ m n c q. q) (word_says (length Ds)) (word_takes (length Ds)) w (words_in (deeds h) cs p))

  all_range : all_below N (requested_in g) ≡ true
      → OneToOneOnto (λ cs. SameShape cs (coins_of h) × InRange Ds (deeds h) cs) (moved (deeds h) (deeds g))
  all_range b =
      with_more (InRange Ds (deeds h)) b
      (λ cs e p. moved_all (length Ds) (RangeOf Ds) (λ r x. x < 2 ^ get_or Ds r 0) (λ m n c q. q) (range_says Ds) (range_takes Ds) (paired R N Ds h g s b cs e) p)
      (λ cs e p. moved_all_back (length Ds) (RangeOf Ds) (λ r x. x < 2 ^ get_or Ds r 0) (λ m n c q. q) (range_says Ds) (range_takes Ds) (paired R N Ds h g s b cs e) p)

  relabelling : Relabelling R N Ds h g
  relabelling =
      record {
        all_coins = either (λ cs. SameShape cs (coins_of h)) shape_only;
        words = either (λ cs. SameShape cs (coins_of h) × Words cs) all_words;
        within_range = either (λ cs. SameShape cs (coins_of h) × InRange Ds (deeds h) cs) all_range;
      }

pub relabelling_is_one_to_one : (R : Type 0) → RelabellingIsOneToOne R
relabelling_is_one_to_one R N Ds h g s = relabelling R N Ds h g s
