-- Words read one by one are the list that they are read from.
use Rattle.std.specs.Prelude.{◌≡◌, ℕ, zero, suc, ◌+◌, ◌≤◌, List, ◌∷◌, length, take, drop, slice_index, refl}
use Rattle.std.proofs.Common.{sym, ap, ◌∙◌, arith, add-one}
use Rattle.std.proofs.lemmas.List.{drop_more, take_all, get_or-take}
use Rattle.record.specs.Words.{words_from}

-- within the list they are a part of it
pub words_from_part : (n i : ℕ) (ws : List ℕ) → i + n ≤ length ws → words_from n i ws ≡ take n (drop i ws)
words_from_part zero i ws h = refl
words_from_part (suc n) i ws h =
    let more : drop i ws ≡ slice_index ws i ∷ drop (suc i) ws = rw (← add-one) (drop_more ws i 0 (omega arith)) in
    ap (λ t. slice_index ws i ∷ t) (words_from_part n (suc i) ws (omega arith)) ∙ sym (ap (take (suc n)) more)

-- n words are the first n of themselves
pub words_from-all : (n : ℕ) (ws : List ℕ) → length ws ≡ n → words_from n 0 ws ≡ ws
words_from-all n ws h = words_from_part n 0 ws (omega arith) ∙ take_all n ws (omega arith)

-- words within the first m do not depend on what follows
pub words_from-take : (m n i : ℕ) (ws : List ℕ) → i + n ≤ m → words_from n i (take m ws) ≡ words_from n i ws
words_from-take m zero i ws h = refl
words_from-take m (suc n) i ws h =
    let first = get_or-take m ws i 0 (omega arith) in
    let rest = words_from-take m n (suc i) ws (omega arith) in
    cc
