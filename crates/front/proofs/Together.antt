-- What a trial of row and map answers, from what it asked of each.
use Rattle.std.proofs.Common.{◌≡◌, ℕ, suc, ◌+◌, ◌-◌, ◌*◌, ◌<◌, ◌≤◌, cond, not, ◌&&◌, eqb, leb, List, [], ◌∷◌, length, get_or, take, drop, Some, None, Option, sym, refl, ap, ◌∙◌, add-one}
use Rattle.std.proofs.lemmas.Bool.{cond-false, cond-true, eq-eqb, le-leb, lt-leb, ne_eqb}
use Rattle.tree.specs.declared.numbers.Leaf.{Leaf}
use Rattle.tree.specs.Blocks.{capacity}
use Rattle.tree.specs.Entries.{request_moves}
use Rattle.tree.specs.Paths.{is_depth}
use Rattle.posmap.specs.Maps.{Card, MapRow, leaf_numbers, or_else, swap_refusal, unless}
use Rattle.front.specs.Fronts.{first_card, own, own_request, request_from}
use Rattle.front.proofs.Coins.{at, left, length_numbers, numbers_at, three_below}

pub few_coins : (share : ℕ) (xs : List Leaf) (o : Option Card) → length xs < share
    → Some (own 5) ≡ cond (leb share (length (leaf_numbers xs))) o (Some (own 5))
few_coins share xs o l = rw (length_numbers xs) (sym (cond-false _ _ _ (lt-leb share (length xs) l)))

many_coins : (share : ℕ) (xs : List Leaf) (o : Option Card) → share ≤ length xs
    → cond (leb share (length (leaf_numbers xs))) o (Some (own 5)) ≡ o
many_coins share xs o l = rw (length_numbers xs) (cond-true _ _ _ (le-leb share (length xs) l))

pub request_together : (leaves : List ℕ) (rows : List MapRow) (unfit full : Option ℕ) (n D span : ℕ) (log : List ℕ) (waiting : ℕ)
    (xs : List Leaf) {r mine lower : Option Card} → 3 ≤ length xs → r ≡ first_card mine lower
    → mine ≡ own_request D span log waiting (at xs 0 ∷ at xs 1 ∷ at xs 2 ∷ [])
    → lower ≡ swap_refusal leaves rows unfit full n (at xs 0) (leaf_numbers (take (length xs - 3) (drop 3 xs)))
    → r ≡ request_from leaves rows unfit full n D span log waiting (leaf_numbers xs)
request_together leaves rows unfit full n D span log waiting xs {r} {mine} {lower} l e f h =
    let ask = swap_refusal leaves rows unfit full n in
    let rest = leaf_numbers (take (length xs - 3) (drop 3 xs)) in
    let mine-is : mine ≡ own_request D span log waiting (leaf_numbers xs) =
    f ∙ ap (λ b. or_else (unless (is_depth D && b) (own 6)) (or_else (unless (leb (length log + request_moves D) span) (own 7)) (unless (not (eqb waiting capacity)) (own 8))))
    (three_below D xs l) in
    let lower-is : lower ≡ ask (get_or (leaf_numbers xs) 0 0) (drop 3 (leaf_numbers xs)) =
    h ∙ (ap (λ m. ask m rest) (numbers_at xs 0) ∙ ap (ask (get_or (leaf_numbers xs) 0 0)) (left 3 xs)) in
    e ∙ (ap (λ o. first_card o lower) mine-is
    ∙ (ap (first_card (own_request D span log waiting (leaf_numbers xs))) lower-is ∙ sym (many_coins 3 xs _ l)))

-- the test of the count of coins, as the code makes it
module _ (xs : List Leaf) (share rows f r : ℕ) (e : f ≡ share) (h : r ≡ rows) where
  count_is : f * (r + 1) ≡ share * suc rows
  count_is = ap (λ k. f * k) (add-one r) ∙ (ap (λ k. k * suc r) e ∙ ap (λ k. share * suc k) h)

  pub wrong_count : (length xs ≡ f * (r + 1) → ⊥) → Some (own 5) ≡ unless (eqb (length (leaf_numbers xs)) (share * suc rows)) (own 5)
  wrong_count wrong =
      rw (length_numbers xs, ne_eqb (length xs) (share * suc rows) (λ k. wrong (k ∙ sym count_is))) refl

  pub right_count : length xs ≡ f * (r + 1) → None ≡ unless (eqb (length (leaf_numbers xs)) (share * suc rows)) (own 5)
  right_count right = rw (length_numbers xs, eq-eqb (length xs) (share * suc rows) (right ∙ count_is)) refl
