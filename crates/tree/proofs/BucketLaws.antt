-- Forty words and four places: both round trips.
use Rattle.std.proofs.Common.{◌≡◌, ℕ, zero, suc, ◌+◌, ◌-◌, ◌*◌, ◌<◌, ◌≤◌, List, [], ◌∷◌, ◌++◌, length, get_or, take, drop, sym, refl, ap, ◌∙◌, arith}
use Rattle.std.proofs.lemmas.List.{append_assoc, append-nil, get_or_append_left, get_or-append_right, length-append, length-take-le, take_at, take_more}
use Rattle.tree.specs.declared.place.Place.{Place}
use Rattle.tree.specs.Places.{place_at, places_of, place_words, words_of, ReadAndLaid, LaidAndRead}
use Rattle.tree.proofs.PlaceLaws.{same_place}

-- the first n values of a function
abbrev listed : ℕ → (ℕ → ℕ) → List ℕ
listed zero f = []
listed (suc n) f = f zero ∷ listed n (λ k. f (suc k))

listed_is : (n : ℕ) (ws : List ℕ) → length ws ≡ n → listed n (λ k. get_or ws k 0) ≡ ws
listed_is zero [] h = refl
listed_is zero (w ∷ ws) h = absurd (omega arith)
listed_is (suc n) [] h = absurd (omega arith)
listed_is (suc n) (w ∷ ws) h = let e : length ws ≡ n = omega arith in ap (λ l. w ∷ l) (listed_is n ws e)

listed_same : (n : ℕ) (f g : ℕ → ℕ) → ((k : ℕ) → k < n → f k ≡ g k) → listed n f ≡ listed n g
listed_same zero f g h = refl
listed_same (suc n) f g h =
    ap (λ x. x ∷ listed n (λ k. f (suc k))) (h 0 (omega arith))
    ∙ ap (λ l. g zero ∷ l) (listed_same n (λ k. f (suc k)) (λ k. g (suc k)) (λ k l. h (suc k) (omega arith)))

pub read_and_laid : ReadAndLaid
read_and_laid ws h = listed_is 40 ws h

ten_long : (p : Place) → length (place_words p) ≡ 10
ten_long p = omega (arith, p.eight)

-- a place laid out first is read back
read_first : (p : Place) (rest : List ℕ) → place_at (place_words p ++ rest) 0 ≡ p
read_first p rest =
    same_place _ _ refl refl
    (listed_same 8 (λ k. get_or (p.words ++ rest) k 0) (λ k. get_or p.words k 0)
    (λ k l. let m : k < length p.words = omega (arith, p.eight) in get_or_append_left p.words rest 0 k m)
    ∙ listed_is 8 p.words p.eight)

-- and a place behind it is read as if it stood alone
past : (p : Place) (rest : List ℕ) (i k : ℕ) → get_or (place_words p ++ rest) (10 + i + k) 0 ≡ get_or rest (i + k) 0
past p rest i k =
    let h = ten_long p in
    get_or-append_right (place_words p) rest 10 (10 + i + k) 0 h (omega arith)
    ∙ ap (λ n. get_or rest n 0) (let e : 10 + i + k - 10 ≡ i + k = omega arith in e)

read_past : (p : Place) (rest : List ℕ) (i : ℕ) → place_at (place_words p ++ rest) (10 + i) ≡ place_at rest i
read_past p rest i =
    let none : get_or (place_words p ++ rest) (10 + i) 0 ≡ get_or rest i 0 =
    get_or-append_right (place_words p) rest 10 (10 + i) 0 (ten_long p) (omega arith) ∙ ap (λ n. get_or rest n 0) (let e : 10 + i - 10 ≡ i = omega arith in e) in
    same_place _ _ none (past p rest i 1)
    (listed_same 8 (λ k. get_or (place_words p ++ rest) (10 + i + (2 + k)) 0) (λ k. get_or rest (i + (2 + k)) 0) (λ k l. past p rest i (2 + k)))

laid : (ps : List Place) → length ps ≡ 4 → places_of (words_of ps) ≡ ps
laid [] h = absurd (omega arith)
laid (a ∷ []) h = absurd (omega arith)
laid (a ∷ b ∷ []) h = absurd (omega arith)
laid (a ∷ b ∷ c ∷ []) h = absurd (omega arith)
laid (a ∷ b ∷ c ∷ d ∷ []) h =
    ap (λ p. p ∷ place_at (words_of (a ∷ b ∷ c ∷ d ∷ [])) 10 ∷ place_at (words_of (a ∷ b ∷ c ∷ d ∷ [])) 20 ∷ place_at (words_of (a ∷ b ∷ c ∷ d ∷ [])) 30 ∷ [])
    (read_first a (words_of (b ∷ c ∷ d ∷ [])))
    ∙ (ap (λ p. a ∷ p ∷ place_at (words_of (a ∷ b ∷ c ∷ d ∷ [])) 20 ∷ place_at (words_of (a ∷ b ∷ c ∷ d ∷ [])) 30 ∷ [])
    (read_past a (words_of (b ∷ c ∷ d ∷ [])) 0 ∙ read_first b (words_of (c ∷ d ∷ [])))
    ∙ (ap (λ p. a ∷ b ∷ p ∷ place_at (words_of (a ∷ b ∷ c ∷ d ∷ [])) 30 ∷ [])
    (read_past a (words_of (b ∷ c ∷ d ∷ [])) 10 ∙ (read_past b (words_of (c ∷ d ∷ [])) 0 ∙ read_first c (words_of (d ∷ []))))
    ∙ ap (λ p. a ∷ b ∷ c ∷ p ∷ [])
    (read_past a (words_of (b ∷ c ∷ d ∷ [])) 20
    ∙ (read_past b (words_of (c ∷ d ∷ [])) 10 ∙ (read_past c (words_of (d ∷ [])) 0 ∙ read_first d [])))))
laid (a ∷ b ∷ c ∷ d ∷ e ∷ ps) h = absurd (omega arith)

pub laid_and_read : LaidAndRead
laid_and_read b = laid b.places b.four

words_push : (qs : List Place) (q : Place) → words_of (qs ++ q ∷ []) ≡ words_of qs ++ place_words q
words_push [] q = append-nil (place_words q)
words_push (r ∷ qs) q =
    ap (λ zs. place_words r ++ zs) (words_push qs q) ∙ sym (append_assoc (place_words r) (words_of qs) (place_words q))

-- the words of one place more
words_more : (ps : List Place) (i : ℕ) (d : Place) → i < length ps
    → words_of (take (i + 1) ps) ≡ words_of (take i ps) ++ place_words (get_or ps i d)
words_more ps i d h = ap words_of (take_more ps i d h) ∙ words_push (take i ps) (get_or ps i d)

-- they stand at the front, once they are written behind those so far
pub front_more : (ps : List Place) (i : ℕ) (d : Place) (xs ys : List ℕ) → i < length ps → 10 * i ≤ length xs
    → take (10 * i) xs ≡ words_of (take i ps)
    → ys ≡ take (10 * i) xs ++ (place_words (get_or ps i d) ++ drop (10 * i + 10) xs)
    → take (10 * (i + 1)) ys ≡ words_of (take (i + 1) ps)
front_more ps i d xs ys h room inv is =
    let p = get_or ps i d in
    let front = take (10 * i) xs ++ place_words p in
    let long : length front ≡ 10 * (i + 1) =
    length-append (take (10 * i) xs) (place_words p)
    ∙ (ap (λ n. n + length (place_words p)) (length-take-le (10 * i) xs room) ∙ let t = ten_long p in omega arith) in
    ap (λ zs. take (10 * (i + 1)) zs) (is ∙ sym (append_assoc (take (10 * i) xs) (place_words p) (drop (10 * i + 10) xs)))
    ∙ (take_at front (drop (10 * i + 10) xs) (10 * (i + 1)) long
    ∙ (ap (λ zs. zs ++ place_words p) inv ∙ sym (words_more ps i d h)))
