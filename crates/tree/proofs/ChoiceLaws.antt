-- The best score so far, and so the place whose block a flush moves.
use Rattle.std.proofs.Common.{◌≡◌, ℕ, zero, suc, ◌+◌, ◌^◌, ◌<◌, ◌≤◌, Bool, true, false, cond, ◌&&◌, eqb, ltb, leb, List, [], ◌∷◌, map, length, get_or, is_some, Some, None, Option, sym, refl, ap, ◌∙◌, subst, arith, below_more, MatchOption}
use Rattle.std.proofs.lemmas.List.{get_or-map, length-map}
use Rattle.std.proofs.lemmas.List.Sums.{position_or_len_is}
use Rattle.std.specs.List.{position}
use Rattle.std.proofs.lemmas.Bool.{and_from, and_parts, cond-false, cond-true, eq-eqb, le-leb, lt-ltb, ltb-true, ne_eqb}
use Rattle.tree.specs.declared.place.Place.{Place}
use Rattle.tree.specs.Paths.{is_depth, is_leaf, path}
use Rattle.tree.specs.Places.{empty_place, has_block, lowest_empty}
use Rattle.tree.specs.Choice.{Moves, best, closeness, highest, may_move, moving, score}
use Rattle.tree.proofs.Firsts.{positive}
use Rattle.tree.proofs.PathLaws.{paths_part, shared_agree}

-- a score, where there are such a depth, leaf and layer
abbrev pub scored : ℕ → ℕ → ℕ → Place → ℕ
scored D m d p = cond (is_leaf D m && leb d D) (score D m d p) 0

-- Of the first n scores none is above top. Either top is 0 and there is no place, or the place has it, and those before have less.
abbrev pub Best : List ℕ → ℕ → ℕ → Option ℕ → Type 0
Best ss n top r =
    ((j : ℕ) → j < n → get_or ss j 0 ≤ top)
    × MatchOption r (top ≡ 0) (λ i. (i < n) × (get_or ss i 0 ≡ top) × (0 < top) × ((j : ℕ) → j < i → get_or ss j 0 < top))

pub best_takes : (ss : List ℕ) (n s top : ℕ) (r : Option ℕ) → s ≡ get_or ss n 0 → top < s → Best ss n top r → Best ss (n + 1) s (Some n)
best_takes ss n s top r e l b = (
  below_more (λ j. get_or ss j 0 ≤ s) n (λ j h. omega (arith, b.0 j h)) (omega arith),
  (omega arith, sym e, omega arith, λ j h. omega (arith, b.0 j h)),
)

pub best_keeps : (ss : List ℕ) (n s top : ℕ) (r : Option ℕ) → s ≡ get_or ss n 0 → s ≤ top → Best ss n top r → Best ss (n + 1) top r
best_keeps ss n s top None e l b = (below_more (λ j. get_or ss j 0 ≤ top) n b.0 (omega arith), b.1)
best_keeps ss n s top (Some i) e l b =
    (below_more (λ j. get_or ss j 0 ≤ top) n b.0 (omega arith), (omega (arith, b.1.0), b.1.1, b.1.2, b.1.3))

-- where two ways meet, the variables have new names
pub best_same : (ss : List ℕ) (n s top : ℕ) (o r : Option ℕ) → top ≡ s → r ≡ o → Best ss n s o → Best ss n top r
best_same ss n s top o r e f b = subst (λ k. Best ss n k r) (sym e) (subst (λ q. Best ss n s q) (sym f) b)

-- the highest score is the one that none is above and that stands somewhere
at_most : (ss : List ℕ) (j : ℕ) → get_or ss j 0 ≤ highest ss
at_most [] j = omega arith
at_most (s ∷ ss) zero = omega arith
at_most (s ∷ ss) (suc j) = omega (arith, at_most ss j)

least : (ss : List ℕ) (t : ℕ) → ((j : ℕ) → j < length ss → get_or ss j 0 ≤ t) → highest ss ≤ t
least [] t h = omega arith
least (s ∷ ss) t h =
    let here : s ≤ t = h 0 (omega arith) in
    let rest = least ss t (λ j l. h (suc j) (omega arith)) in
    omega arith

-- the first that passes is the one before which none does
first_is : {X : Type 0} (test : X → Bool) (d : X) (xs : List X) (i : ℕ) → i < length xs → test (get_or xs i d) ≡ true
    → ((j : ℕ) → j < i → test (get_or xs j d) ≡ false) → position test xs ≡ Some i
first_is test d xs i l t f =
    let e = position_or_len_is test xs i d (omega arith) f (λ _. t) in
    ap (λ k. cond (ltb k (length xs)) (Some k) None) e ∙ cond-true _ (Some i) None (lt-ltb i (length xs) l)

pub best_is : (ss : List ℕ) (top : ℕ) (r : Option ℕ) → Best ss (length ss) top r → r ≡ best ss
best_is ss top None b =
    let h : highest ss ≡ 0 = omega (arith, least ss top b.0, b.1) in
    sym (cond-true (eqb (highest ss) 0) None _ (eq-eqb _ _ h))
best_is ss top (Some i) b =
    let h : highest ss ≡ top = omega (arith, least ss top b.0, at_most ss i, b.1.1) in
    let first = first_is (λ s. eqb s (highest ss)) 0 ss i b.1.0 (eq-eqb _ _ (b.1.1 ∙ sym h))
    (λ j l. ne_eqb _ _ (λ e. omega (arith, b.1.3 j l))) in
    sym (cond-false (eqb (highest ss) 0) None _ (ne_eqb _ _ (λ e. omega (arith, b.1.2))) ∙ first)

-- where no score counts, there is no best
none_high : (ps : List Place) → highest (map (λ (p : Place). 0) ps) ≡ 0
none_high [] = refl
none_high (p ∷ ps) = omega (arith, none_high ps)

best_under : (t : Bool) (f : Place → ℕ) (ps : List Place) → best (map (λ p. cond t (f p) 0) ps) ≡ cond t (best (map f ps)) None
best_under true f ps = refl
best_under false f ps =
    cond-true (eqb (highest (map (λ (p : Place). 0) ps)) 0) None _ (eq-eqb _ _ (none_high ps))

-- a block that may move shares at least the root with the flushed path
may_positive : (D m d : ℕ) (p : Place) → m < 2 ^ D → may_move D m d p ≡ true → 0 < closeness D m p
may_positive D m d p h may =
    let on = and_parts (ltb p.leaf (2 ^ D)) (eqb (path D p.leaf d) (path D m d)) (and_parts (has_block p) _ may).1 in
    let part = paths_part D p.leaf m (ltb-true _ _ on.0) h in
    omega (arith, part.1.0, shared_agree D p.leaf m part.0 part.1)

-- so its score is its closeness
may_score : (D m d : ℕ) (p : Place) → may_move D m d p ≡ true → score D m d p ≡ closeness D m p
may_score D m d p may = cond-true (may_move D m d p) (closeness D m p) 0 may

-- the score of a place is the one in the list
pub score_at : (D m d : ℕ) (ps : List Place) (i s : ℕ) (x : Place) → i < length ps → s ≡ scored D m d (get_or ps i x)
    → s ≡ get_or (map (scored D m d) ps) i 0
score_at D m d ps i s x h e = e ∙ sym (get_or-map (scored D m d) ps i x 0 h)

-- the best of all scores is the chosen place
pub best-chosen : (D m d : ℕ) (parent child : List Place) (n top : ℕ) (r : Option ℕ) → n ≡ length parent
    → is_some (lowest_empty child) ≡ true → Best (map (scored D m d) parent) n top r → r ≡ moving D m d parent child
best-chosen D m d parent child n top r e room b =
    let test = is_leaf D m && leb d D in
    let ss = map (scored D m d) parent in
    let f : Place → ℕ = score D m d in
    let all : Best ss (length ss) top r = subst (λ k. Best ss k top r) (e ∙ sym (length-map parent (scored D m d))) b in
    best_is ss top r all
    ∙ (best_under test f parent ∙ ap (λ o. cond test o None) (sym (cond-true (is_some (lowest_empty child)) (best (map f parent)) None room)))

-- and it is the place whose block moves
moves_from : (D m d : ℕ) (parent child : List Place) (n top : ℕ) (r : Option ℕ) → m < 2 ^ D → n ≡ length parent
    → is_some (lowest_empty child) ≡ true → Best (map (score D m d) parent) n top r → Moves D m d parent child r
moves_from D m d parent child n top None l e room b =
    λ i h some may.
    let p : Place = get_or parent i empty_place in
    let s = get_or-map (score D m d) parent i empty_place 0 h in
    let none : ⊥ = omega (arith, s, may_score D m d p may, may_positive D m d p l may, b.0 i (omega arith), b.1) in
    none
moves_from D m d parent child n top (Some i) l e room b =
    let within : i < length parent = omega (arith, b.1.0) in
    let p : Place = get_or parent i empty_place in
    let at = get_or-map (score D m d) parent i empty_place 0 within in
    let may : may_move D m d p ≡ true = positive (may_move D m d p) (closeness D m p) (omega (arith, at, b.1.1, b.1.2)) in
    let close = may_score D m d p may in (
      within,
      room,
      may,
      (λ j h other.
          let q : Place = get_or parent j empty_place in
          let s = get_or-map (score D m d) parent j empty_place 0 h in
          omega (arith, at, close, s, may_score D m d q other, b.0 j (omega arith), b.1.1)),
      (λ j h other.
          let q : Place = get_or parent j empty_place in
          let k : j < length parent = omega arith in
          let s = get_or-map (score D m d) parent j empty_place 0 k in
          omega (arith, at, close, s, may_score D m d q other, b.1.3 j h, b.1.1)),
    )

pub best_moves : (D m d : ℕ) (parent child : List Place) (n top : ℕ) (r : Option ℕ) → n ≡ length parent
    → is_some (lowest_empty child) ≡ true → Best (map (scored D m d) parent) n top r
    → is_leaf D m ≡ true → d ≤ D → Moves D m d parent child r
best_moves D m d parent child n top r e room b leaf layer =
    let test : (is_leaf D m && leb d D) ≡ true = and_from _ _ leaf (le-leb d D layer) in
    moves_from D m d parent child n top r (ltb-true _ _ (and_parts (is_depth D) _ leaf).1) e room
    (subst (λ t. Best (map (λ p. cond t (score D m d p) 0) parent) n top r) test b)
