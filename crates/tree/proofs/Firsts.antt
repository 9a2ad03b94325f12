-- The first that passes a test, and so the place whose block a flush moves.
use Rattle.std.proofs.Common.{◌≡◌, ℕ, ◌+◌, ◌<◌, Bool, true, false, cond, not, eqb, List, map, length, get_or, is_some, Some, None, Option, sym, refl, ap, ◌∙◌, arith}
use lib.ListN.{get_or-map}
use Rattle.std.proofs.lemmas.List.Quantifiers.{position-Some}
use Rattle.std.proofs.lemmas.List.{get_or_default, length-map}
use Rattle.std.proofs.lemmas.Option.{none-some}
use Rattle.std.proofs.lemmas.Bool.{and_parts, cond-true, eqb-true, eqb-false, false≢true, ne_eqb}
use Rattle.tree.specs.declared.place.Place.{Place}
use Rattle.tree.specs.Places.{block_at, block_in, empty_place, has_block, holds, is_empty, lowest_empty, place_of, taken}
use Rattle.tree.specs.Choice.{may_move, closeness, score, highest, best, chosen}

-- an answer under a test that must pass, or fail
pub under : {X : Type 0} (b : Bool) (o : Option X) (x : X) → cond b o None ≡ Some x → (b ≡ true) × (o ≡ Some x)
under true o x e = (refl, e)
under false o x e = absurd (none-some x e)

unless : {X : Type 0} (b : Bool) (o : Option X) (x : X) → cond b None o ≡ Some x → (b ≡ false) × (o ≡ Some x)
unless true o x e = absurd (none-some x e)
unless false o x e = (refl, e)

-- the lowest empty place has no block
pub empty_free : (ps : List Place) (j : ℕ) → lowest_empty ps ≡ Some j
    → (j < length ps) × (has_block (get_or ps j empty_place) ≡ false)
empty_free ps j e =
    let r = position-Some is_empty ps j empty_place e in
    (r.0, ap not (and_parts _ _ r.1).0)

best_positive : (ss : List ℕ) (i : ℕ) → best ss ≡ Some i → (i < length ss) × (0 < get_or ss i 0)
best_positive ss i e =
    let u = unless (eqb (highest ss) 0) _ i e in
    let r = position-Some (λ s. eqb s (highest ss)) ss i 0 u.1 in
    let s : get_or ss i 0 ≡ highest ss = eqb-true _ _ r.1 in
    let n : highest ss ≡ 0 → ⊥ = eqb-false _ _ u.0 in
    (r.0, omega arith)

some_place : (o : Option ℕ) → is_some o ≡ true → (j : ℕ) × (o ≡ Some j)
some_place None h = absurd (false≢true h)
some_place (Some j) h = (j, refl)

pub positive : (b : Bool) (n : ℕ) → 0 < cond b n 0 → b ≡ true
positive true n h = refl
positive false n h = absurd (let z : ⊥ = omega arith in z)

-- the chosen place has a block that may move, and there is room for it
pub chosen_moves : (D m d : ℕ) (parent child : List Place) (i : ℕ) → chosen D m d parent child ≡ Some i
    → (i < length parent) × (may_move D m d (get_or parent i empty_place) ≡ true) × ((j : ℕ) × (lowest_empty child ≡ Some j))
chosen_moves D m d parent child i e =
    let u = under (is_some (lowest_empty child)) _ i e in
    let r = best_positive (map (score D m d) parent) i u.1 in
    let s = get_or-map (score D m d) parent i empty_place in
    let l = length-map parent (score D m d) in
    let p : Place = get_or parent i empty_place in
    (omega arith, positive (may_move D m d p) (closeness D m p) (omega arith), some_place (lowest_empty child) u.0)

-- a place of the number n has a block
pub holds_block : (n : ℕ) (p : Place) → holds n p ≡ true → has_block p ≡ true
holds_block n p h = let e : p.mark ≡ n + 1 = eqb-true _ _ h in ap not (ne_eqb p.mark 0 (λ z. omega arith))

-- the block of the place where the number n stands is the one that is taken
pub taken_at : (n : ℕ) (ps : List Place) (i : ℕ) (d : Place) → Some i ≡ place_of n ps
    → cond (has_block (get_or ps i d)) (Some (block_in (get_or ps i d))) None ≡ taken n ps
taken_at n ps i d e =
    let r = position-Some (holds n) ps i d (sym e) in
    cond-true _ (Some (block_in (get_or ps i d))) None (holds_block n (get_or ps i d) r.1)
    ∙ (ap (λ p. Some (block_in p)) (get_or_default ps i d empty_place r.0) ∙ ap (block_at ps) e)
