-- What stands at a turn.
use Rattle.std.proofs.Common.{◌≡◌, ℕ, ◌<◌, ◌≤◌, Bool, true, false, cond, eqb, List, [], ◌∷◌, map, length, Some, None, Option, sym, refl, ap, ◌∙◌, ⊎_elim, arith}
use Rattle.std.proofs.lemmas.List.{length-map}
use Rattle.std.proofs.lemmas.Bool.{cases_lt, eq-eqb, ne_eqb, cond-true, cond-false}
use Rattle.history.specs.Histories.{number_in, numbers_in, row_number}
use Rattle.history.specs.Secrecy.{at_turn, Asked, Requested}

-- the latest turn, and one before it
pub at_last : {A : Type 0} (d x : A) (xs : List A) (t : ℕ) → t ≡ length xs → at_turn d (x ∷ xs) t ≡ x
at_last d x xs t e = cond-true (eqb t (length xs)) x (at_turn d xs t) (eq-eqb t (length xs) e)

pub at_before : {A : Type 0} (d x : A) (xs : List A) (t : ℕ) → (t ≡ length xs → ⊥) → at_turn d (x ∷ xs) t ≡ at_turn d xs t
at_before d x xs t n = cond-false (eqb t (length xs)) x (at_turn d xs t) (ne_eqb t (length xs) n)

pub at_past : {A : Type 0} (d : A) (xs : List A) (t : ℕ) → length xs ≤ t → at_turn d xs t ≡ d
at_past d [] t h = refl
at_past d (x ∷ xs) t h = at_before d x xs t (λ e. omega arith) ∙ at_past d xs t (let q : length xs ≤ t = omega arith in q)

pub at_map : {A B : Type 0} (f : A → B) (d : A) (xs : List A) (t : ℕ) → at_turn (f d) (map f xs) t ≡ f (at_turn d xs t)
at_map f d [] t = refl
at_map f d (x ∷ xs) t =
    ap (λ l. cond (eqb t l) (f x) (at_turn (f d) (map f xs) t)) (length-map xs f)
    ∙ (ap (λ y. cond (eqb t (length xs)) (f x) y) (at_map f d xs t) ∙ go (eqb t (length xs)))
  where
    go : (b : Bool) → cond b (f x) (f (at_turn d xs t)) ≡ f (cond b x (at_turn d xs t))
    go true = refl
    go false = refl

-- what is asked at a turn is asked at one of the turns there are
pub asked_in : (ms : List (Option ℕ)) (t n : ℕ) → Asked ms t n → t < length ms
asked_in ms t n h = ⊎_elim (λ l. l) (λ l. absurd (past l)) (cases_lt t (length ms))
  where
    past : length ms ≤ t → ⊥
    past l = let e = at_past None ms t l in let z : ◌≡◌ {A = ℕ} 0 1 = cc in omega arith

-- a request, and the same request in its row
pub in_row : (r : ℕ) (ms : List (Option ℕ)) (t n : ℕ) → Asked ms t n → Asked (numbers_in r ms) t (row_number r n)
in_row r ms t n h = at_map (number_in r) None ms t ∙ ap (number_in r) h

pub from_row : (r : ℕ) (ms : List (Option ℕ)) (t : ℕ) → Requested (numbers_in r ms) t → Requested ms t
from_row r ms t h = go (at_turn None ms t) refl (sym (at_map (number_in r) None ms t) ∙ h.1)
  where
    go : (o : Option ℕ) → at_turn None ms t ≡ o → number_in r o ≡ Some h.0 → Requested ms t
    go None e k = absurd (let z : ◌≡◌ {A = ℕ} 0 1 = cc in omega arith)
    go (Some n) e k = (n, e)
