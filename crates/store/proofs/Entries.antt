-- Entries laid out in a tail, and what a tail tells of them.
use Rattle.std.proofs.Common.{◌≡◌, ℕ, zero, suc, ◌+◌, ◌-◌, ◌*◌, ◌<◌, ◌≤◌, List, [], ◌∷◌, ◌++◌, length, get_or, take, drop, sym, refl, ap, ◌∙◌, add-zero, arith}
use Rattle.std.proofs.lemmas.List.{drop-drop, drop_at, drop-take, get_or-append_right, get_or-drop, get_or_at, get_or-take, length-take-le, take_at, take-take}
use Rattle.store.specs.Layout.{overwritten}
use Rattle.store.specs.Stores.{bucket_words}
use Rattle.store.specs.Tails.{entry_words, kind_at, number_at, is_write_of, numbers_in, replayed, after_entry, words_at}

-- the front of a list that is written over behind it
pub take_overwritten_front : (xs : List ℕ) (a : ℕ) (ys : List ℕ) → a ≤ length xs → take a (overwritten xs a ys) ≡ take a xs
take_overwritten_front xs a ys h = take_at (take a xs) _ a (length-take-le a xs h)

-- entry k, cut out of its tail, is a tail of one entry that tells the same
module _ (t : List ℕ) (k : ℕ) where
  abbrev pub cut : List ℕ
  cut = take entry_words (drop (entry_words * k) t)

  word_cut : (i : ℕ) → i < entry_words → get_or cut i 0 ≡ get_or t (entry_words * k + i) 0
  word_cut i h = get_or-take entry_words (drop (entry_words * k) t) i 0 h ∙ get_or-drop (entry_words * k) t i 0

  pub kind_cut : kind_at cut 0 ≡ kind_at t k
  kind_cut = word_cut 0 (omega arith) ∙ ap (λ i. get_or t i 0) (add-zero (entry_words * k))

  pub number_cut : number_at cut 0 ≡ number_at t k
  number_cut = word_cut 1 (omega arith)

  pub words_cut : words_at cut 0 ≡ words_at t k
  words_cut =
      ap (take bucket_words) (drop-take 2 bucket_words (drop (entry_words * k) t))
      ∙ take-take bucket_words bucket_words (drop 2 (drop (entry_words * k) t)) (omega arith)
      ∙ ap (take bucket_words) (drop-drop 2 (entry_words * k) t)

  pub after_cut : (bs : List (List ℕ)) → after_entry cut 0 bs ≡ after_entry t k bs
  after_cut bs =
      let kind = kind_cut in
      let number = number_cut in
      let words = words_cut in
      cc

  pub write_cut : (n : ℕ) → is_write_of cut 0 n ≡ is_write_of t k n
  write_cut n =
      let kind = kind_cut in
      let number = number_cut in
      cc

-- an entry is told by the words up to its end
module _ (t u : List ℕ) (k : ℕ) (same : take (entry_words * suc k) t ≡ take (entry_words * suc k) u) where
  word_same : (i : ℕ) → i < entry_words * suc k → get_or t i 0 ≡ get_or u i 0
  word_same i h =
      sym (get_or-take (entry_words * suc k) t i 0 h) ∙ ap (λ xs. get_or xs i 0) same ∙ get_or-take (entry_words * suc k) u i 0 h

  pub kind_same : kind_at t k ≡ kind_at u k
  kind_same = word_same (entry_words * k) (omega arith)

  pub number_same : number_at t k ≡ number_at u k
  number_same = word_same (entry_words * k + 1) (omega arith)

  pub words_same : words_at t k ≡ words_at u k
  words_same =
      let end : entry_words * suc k ≡ entry_words * k + 2 + bucket_words = omega arith in
      sym (drop-take (entry_words * k + 2) bucket_words t) ∙ ap (λ m. drop (entry_words * k + 2) (take m t)) (sym end)
      ∙ ap (drop (entry_words * k + 2)) same ∙ ap (λ m. drop (entry_words * k + 2) (take m u)) end
      ∙ drop-take (entry_words * k + 2) bucket_words u

  pub before_same : take (entry_words * k) t ≡ take (entry_words * k) u
  before_same =
      sym (take-take (entry_words * k) (entry_words * suc k) t (omega arith)) ∙ ap (take (entry_words * k)) same
      ∙ take-take (entry_words * k) (entry_words * suc k) u (omega arith)

-- so are the log and the buckets
pub numbers_same : (k : ℕ) (t u : List ℕ) → take (entry_words * k) t ≡ take (entry_words * k) u → numbers_in k t ≡ numbers_in k u
numbers_same zero t u same = refl
numbers_same (suc k) t u same =
    ap (λ ns. ns ++ number_at t k ∷ []) (numbers_same k t u (before_same t u k same))
    ∙ ap (λ n. numbers_in k u ++ n ∷ []) (number_same t u k same)

pub replayed_same : (k : ℕ) (t u : List ℕ) (bs : List (List ℕ)) → take (entry_words * k) t ≡ take (entry_words * k) u
    → replayed k t bs ≡ replayed k u bs
replayed_same zero t u bs same = refl
replayed_same (suc k) t u bs same =
    let before = replayed_same k t u bs (before_same t u k same) in
    let kind = kind_same t u k same in
    let number = number_same t u k same in
    let words = words_same t u k same in
    ap (after_entry t k) before ∙ cc

-- what the newest entry tells
module _ (t : List ℕ) (k x y : ℕ) (ys u : List ℕ) (fits : entry_words * k ≤ length t) (long : length ys ≡ bucket_words)
    (laid : u ≡ overwritten t (entry_words * k) (x ∷ y ∷ ys)) where
  front_long : length (take (entry_words * k) t) ≡ entry_words * k
  front_long = length-take-le (entry_words * k) t fits

  pub kind_laid : kind_at u k ≡ x
  kind_laid = ap (λ xs. kind_at xs k) laid ∙ get_or_at (take (entry_words * k) t) x _ 0 (entry_words * k) front_long

  pub number_laid : number_at u k ≡ y
  number_laid =
      let rest = drop (entry_words * k + length (x ∷ y ∷ ys)) t in
      let one : entry_words * k + 1 - entry_words * k ≡ 1 = omega arith in
      ap (λ xs. number_at xs k) laid
      ∙ get_or-append_right (take (entry_words * k) t) (x ∷ y ∷ (ys ++ rest)) (entry_words * k) (entry_words * k + 1) 0 front_long (omega arith)
      ∙ ap (λ i. get_or (x ∷ y ∷ (ys ++ rest)) i 0) one

  pub words_laid : words_at u k ≡ ys
  words_laid =
      let rest = drop (entry_words * k + length (x ∷ y ∷ ys)) t in
      ap (λ xs. words_at xs k) laid
      ∙ ap (take bucket_words) (sym (drop-drop 2 (entry_words * k) (overwritten t (entry_words * k) (x ∷ y ∷ ys)))
      ∙ ap (drop 2) (drop_at (take (entry_words * k) t) (x ∷ y ∷ (ys ++ rest)) (entry_words * k) front_long))
      ∙ take_at ys rest bucket_words long

  pub front_laid : take (entry_words * k) u ≡ take (entry_words * k) t
  front_laid = ap (take (entry_words * k)) laid ∙ take_overwritten_front t (entry_words * k) (x ∷ y ∷ ys) fits
