-- A list of words in chunks of equal width.
use Rattle.std.proofs.Common.{◌≡◌, ℕ, zero, suc, ◌+◌, ◌*◌, ◌<◌, ◌≤◌, List, [], ◌∷◌, ◌++◌, length, get_or, take, drop, set, replicate, sym, refl, ap, ◌∙◌, mul-le-mul_left, mul-zero, zero-add, mul-suc, arith}
use borrow.Rule.Slice.PartMut.{put_mid}
use Rattle.std.proofs.lemmas.List.{append_assoc, length-take-le, length-drop, length-append, length-replicate, drop-drop, take_at, drop_at, take-append-le, drop-append-le, take-take, drop-take, replicate-append-replicate, take-append-drop}
use Rattle.std.proofs.lemmas.Slice.{drop-put_mid}
use Rattle.std.specs.Simd.{first_chunks}
use Rattle.store.specs.Layout.{overwritten, blanked, laid_out}

-- one chunk more
wider : (w i : ℕ) → w * suc i ≡ w + w * i
wider w i = omega (arith, mul-suc w i)

-- chunk i of a list
pub get_or-first_chunks : (w n : ℕ) (xs : List ℕ) (i : ℕ) → i < n → get_or (first_chunks w n xs) i [] ≡ take w (drop (w * i) xs)
get_or-first_chunks w zero xs i h = absurd (omega arith)
get_or-first_chunks w (suc n) xs zero h = ap (λ a. take w (drop a xs)) (sym (mul-zero w))
get_or-first_chunks w (suc n) xs (suc i) h =
    get_or-first_chunks w n (drop w xs) i (omega arith)
    ∙ ap (take w) (drop-drop (w * i) w xs ∙ ap (λ a. drop a xs) (sym (wider w i)))

-- the front of the chunks
pub take-first_chunks : (w k n : ℕ) (xs : List ℕ) → k ≤ n → take k (first_chunks w n xs) ≡ first_chunks w k xs
take-first_chunks w zero n xs h = refl
take-first_chunks w (suc k) zero xs h = absurd (omega arith)
take-first_chunks w (suc k) (suc n) xs h = ap (λ z. take w xs ∷ z) (take-first_chunks w k n (drop w xs) (omega arith))

-- past the first chunk a list is written over as what is left of it
module _ (w : ℕ) (xs : List ℕ) (i : ℕ) (ys : List ℕ) (l : w * suc i ≤ length xs) where
  whole_front : w ≤ length (take (w * suc i) xs)
  whole_front = omega (arith, wider w i, length-take-le (w * suc i) xs l)

  take_overwritten : take w (overwritten xs (w * suc i) ys) ≡ take w xs
  take_overwritten =
      take-append-le w (take (w * suc i) xs) _ whole_front ∙ take-take w (w * suc i) xs (omega (arith, wider w i))

  drop_overwritten : drop w (overwritten xs (w * suc i) ys) ≡ overwritten (drop w xs) (w * i) ys
  drop_overwritten =
      let rest = ys ++ drop (w * suc i + length ys) xs in
      let e : w * suc i + length ys ≡ w + (w * i + length ys) = omega (arith, wider w i) in
      drop-append-le w (take (w * suc i) xs) rest whole_front
      ∙ ap (λ a. drop w (take a xs) ++ rest) (wider w i) ∙ ap (λ z. z ++ rest) (drop-take w (w * i) xs)
      ∙ ap (λ z. take (w * i) (drop w xs) ++ (ys ++ z)) (ap (λ a. drop a xs) e ∙ sym (drop-drop (w * i + length ys) w xs))

-- a chunk written over is that chunk replaced
pub first_chunks-overwritten : (w n : ℕ) (xs : List ℕ) (i : ℕ) (ys : List ℕ) → i < n → w * n ≤ length xs → length ys ≡ w
    → first_chunks w n (overwritten xs (w * i) ys) ≡ set (first_chunks w n xs) i ys
first_chunks-overwritten w zero xs i ys h l e = absurd (omega arith)
first_chunks-overwritten w (suc n) xs zero ys h l e =
    let o : overwritten xs (w * 0) ys ≡ ys ++ drop w xs = ap (λ a. overwritten xs a ys) (mul-zero w)
    ∙ ap (λ a. ys ++ drop a xs) (zero-add (length ys) ∙ e) in
    ap (λ z. take w z ∷ first_chunks w n (drop w z)) o
    ∙ ap (λ z. z ∷ first_chunks w n (drop w (ys ++ drop w xs))) (take_at ys (drop w xs) w e)
    ∙ ap (λ z. ys ∷ first_chunks w n z) (drop_at ys (drop w xs) w e)
first_chunks-overwritten w (suc n) xs (suc i) ys h l e =
    let m : w * suc i ≤ w * suc n = mul-le-mul_left w (omega arith) in
    let k : w * suc i ≤ length xs = omega arith in
    let left : w * n ≤ length (drop w xs) = omega (arith, wider w n, length-drop w xs) in
    ap (λ z. z ∷ first_chunks w n (drop w (overwritten xs (w * suc i) ys))) (take_overwritten w xs i ys k)
    ∙ ap (λ z. take w xs ∷ first_chunks w n z) (drop_overwritten w xs i ys k)
    ∙ ap (λ z. take w xs ∷ z) (first_chunks-overwritten w n (drop w xs) i ys (omega arith) left e)

-- zeros in chunks
first_chunks_zeros : (w n : ℕ) (rest : List ℕ) → first_chunks w n (replicate (w * n) 0 ++ rest) ≡ replicate n (replicate w 0)
first_chunks_zeros w zero rest = refl
first_chunks_zeros w (suc n) rest =
    let z : replicate (w * suc n) 0 ++ rest ≡ replicate w 0 ++ (replicate (w * n) 0 ++ rest) =
    ap (λ a. replicate a 0 ++ rest) (wider w n)
    ∙ ap (λ l. l ++ rest) (sym (replicate-append-replicate w (w * n) 0))
    ∙ append_assoc (replicate w 0) (replicate (w * n) 0) rest in
    let e = length-replicate w 0 in
    ap (λ l. take w l ∷ first_chunks w n (drop w l)) z
    ∙ ap (λ l. l ∷ first_chunks w n (drop w (replicate w 0 ++ (replicate (w * n) 0 ++ rest)))) (take_at (replicate w 0) _ w e)
    ∙ ap (λ l. replicate w 0 ∷ first_chunks w n l) (drop_at (replicate w 0) _ w e)
    ∙ ap (λ l. replicate w 0 ∷ l) (first_chunks_zeros w n rest)

-- all chunks made 0
pub first_chunks-blanked : (w n : ℕ) (xs : List ℕ) → first_chunks w n (blanked (w * n) xs) ≡ replicate n (replicate w 0)
first_chunks-blanked w n xs = first_chunks_zeros w n (drop (w * n) xs)

-- as the library has it
overwritten_put_mid : (a : ℕ) (xs ys : List ℕ) → overwritten xs a ys ≡ put_mid a (length ys) xs ys
overwritten_put_mid a xs ys = ap (λ z. take a xs ++ (ys ++ z)) (sym (drop-drop (length ys) a xs))

-- nothing past what is written changes
pub drop_overwritten_past : (xs : List ℕ) (a : ℕ) (ys : List ℕ) (e : ℕ) → a + length ys ≤ e → a + length ys ≤ length xs
    → drop e (overwritten xs a ys) ≡ drop e xs
drop_overwritten_past xs a ys e h l =
    ap (drop e) (overwritten_put_mid a xs ys) ∙ drop-put_mid a (length ys) xs ys e h (omega arith) refl

pub length-overwritten : (xs : List ℕ) (a : ℕ) (ys : List ℕ) → a + length ys ≤ length xs → length (overwritten xs a ys) ≡ length xs
length-overwritten xs a ys h =
    let t = length-take-le a xs (omega arith) in
    let d = length-drop (a + length ys) xs in
    let l = length-append (take a xs) (ys ++ drop (a + length ys) xs) in
    let m = length-append ys (drop (a + length ys) xs) in
    omega arith

pub length-blanked : (n : ℕ) (xs : List ℕ) → n ≤ length xs → length (blanked n xs) ≡ length xs
length-blanked n xs h =
    omega (arith, length-append (replicate n 0) (drop n xs), length-replicate {A = ℕ} n 0, length-drop n xs)

-- the chunks one after the other, and what is past them, are the list
pub laid_out-first_chunks : (w n : ℕ) (xs : List ℕ) → xs ≡ laid_out (first_chunks w n xs) ++ drop (w * n) xs
laid_out-first_chunks w zero xs = ap (λ m. drop m xs) (sym (mul-zero w))
laid_out-first_chunks w (suc n) xs =
    sym (take-append-drop w xs) ∙ ap (λ z. take w xs ++ z) (laid_out-first_chunks w n (drop w xs))
    ∙ sym (append_assoc (take w xs) (laid_out (first_chunks w n (drop w xs))) (drop (w * n) (drop w xs)))
    ∙ ap (λ z. (take w xs ++ laid_out (first_chunks w n (drop w xs))) ++ z) (drop-drop (w * n) w xs ∙ ap (λ m. drop m xs) (sym (wider w n)))
