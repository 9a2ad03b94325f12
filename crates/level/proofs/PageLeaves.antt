-- The leaves that the pages of a row hold, one page after the other.
use Rattle.std.proofs.Common.{◌≡◌, ℕ, zero, suc, ◌+◌, ◌-◌, ◌*◌, ◌/◌, ◌%◌, ◌<◌, ◌≤◌, ◌++◌, get_or, set, replicate, Some, None, sym, refl, ap, ◌∙◌, inl, inr, arith}
use Rattle.std.proofs.lemmas.List.{get_or_append_left, get_or-append_right, replicate-append-replicate, set-append_left, set-append_right}
use Rattle.std.proofs.lemmas.Bool.{cases_lt}
use Rattle.steps.specs.Steps.{Row}
use Rattle.steps.specs.Order.{content}
use Rattle.level.specs.Levels.{page_with, page_words, pages_from}
use Rattle.level.specs.Facts.{eight, page}

-- leaf i, counted from page j on, is a word of page j + i / 8
leaf_from : (row : Row) (k j i p q : ℕ) → i < 8 * k → p ≡ j + i / 8 → q ≡ i % 8
    → get_or (pages_from row j k) i 0 ≡ get_or (page p row) q 0
leaf_from row zero j i p q l ep eq = absurd (let n : ⊥ = omega arith in n)
leaf_from row (suc k) j i p q l ep eq =
    elim (cases_lt i 8) [
      | inl h ↦
          let a : p ≡ j = omega arith in
          let b : q ≡ i = omega arith in
          get_or_append_left (page j row) (pages_from row (suc j) k) 0 i (rw (eight j row) h)
          ∙ ap (λ x. get_or (page x row) i 0) (sym a) ∙ ap (λ x. get_or (page p row) x 0) (sym b)
      | inr h ↦
          get_or-append_right (page j row) (pages_from row (suc j) k) 8 i 0 (eight j row) h
          ∙ leaf_from row k (suc j) (i - 8) p q (omega arith) (omega arith) (omega arith)
    ]

pub leaf_in-page : (row : Row) (n i : ℕ) → i < 8 * n
    → get_or (pages_from row 0 n) i 0 ≡ get_or (page (i / 8) row) (i % 8) 0
leaf_in-page row n i l = leaf_from row n 0 i (i / 8) (i % 8) l (omega arith) refl

-- pages that hold what they held
same_from : (row row' : Row) (k j : ℕ) → ((m : ℕ) → j ≤ m → content m row' ≡ content m row) → pages_from row' j k ≡ pages_from row j k
same_from row row' zero j same = refl
same_from row row' (suc k) j same =
    rw (same j (omega arith), same_from row row' k (suc j) (λ m l. same m (omega arith)))

pub same_pages : (row row' : Row) (n : ℕ) → ((m : ℕ) → content m row' ≡ content m row) → pages_from row' 0 n ≡ pages_from row 0 n
same_pages row row' n same = same_from row row' n 0 (λ m _. same m)

-- one word of one page replaced is one leaf replaced
set_from : (row row' : Row) (new k j i p q : ℕ) → i < 8 * k → p ≡ j + i / 8 → q ≡ i % 8
    → content p row' ≡ Some (set (page p row) q new) → ((m : ℕ) → (m ≡ p → ⊥) → content m row' ≡ content m row)
    → pages_from row' j k ≡ set (pages_from row j k) i new
set_from row row' new zero j i p q l ep eq here others = absurd (let n : ⊥ = omega arith in n)
set_from row row' new (suc k) j i p q l ep eq here others =
    elim (cases_lt i 8) [
      | inl h ↦
          let a : p ≡ j = omega arith in
          let b : q ≡ i = omega arith in
          let e : content j row' ≡ Some (set (page j row) i new) =
          ap (λ x. content x row') (sym a) ∙ here ∙ ap (λ x. Some (set (page x row) q new)) a
          ∙ ap (λ x. Some (set (page j row) x new)) b in
          ap (λ o. page_words o ++ pages_from row' (suc j) k) e
          ∙ ap (λ xs. set (page j row) i new ++ xs) (same_from row row' k (suc j) (λ m g. others m (λ z. omega arith)))
          ∙ sym (set-append_left (page j row) (pages_from row (suc j) k) i new (rw (eight j row) h))
      | inr h ↦
          ap (λ o. page_words o ++ pages_from row' (suc j) k) (others j (λ z. omega arith))
          ∙ ap (λ xs. page j row ++ xs)
          (set_from row row' new k (suc j) (i - 8) p q (omega arith) (omega arith) (omega arith) here others)
          ∙ sym (set-append_right (page j row) (pages_from row (suc j) k) 8 i new (eight j row) h)
    ]

pub set-page : (row row' : Row) (n i new : ℕ) → i < 8 * n
    → content (i / 8) row' ≡ Some (page_with (page (i / 8) row) i new)
    → ((m : ℕ) → (m ≡ i / 8 → ⊥) → content m row' ≡ content m row)
    → pages_from row' 0 n ≡ set (pages_from row 0 n) i new
set-page row row' n i new l here others = set_from row row' new n 0 i (i / 8) (i % 8) l (omega arith) refl here others

-- with no page, every leaf is 0
zero_from : (row : Row) (k j : ℕ) → ((m : ℕ) → content m row ≡ None) → pages_from row j k ≡ replicate (8 * k) 0
zero_from row zero j none = refl
zero_from row (suc k) j none =
    ap (λ o. page_words o ++ pages_from row (suc j) k) (none j) ∙ ap (λ xs. replicate 8 0 ++ xs) (zero_from row k (suc j) none)
    ∙ replicate-append-replicate 8 (8 * k) 0 ∙ (let e : 8 + 8 * k ≡ 8 * suc k = omega arith in ap (λ n. replicate n 0) e)

pub zero_pages : (row : Row) (n : ℕ) → ((m : ℕ) → content m row ≡ None) → pages_from row 0 n ≡ replicate (8 * n) 0
zero_pages row n none = zero_from row n 0 none
