-- The facts of every store, shown of a store whose buckets and log are in lists of words.
use Rattle.std.specs.Prelude.{◌≡◌, ℕ, zero, suc, ◌+◌, ◌-◌, ◌*◌, ◌/◌, ◌≤◌, min, ◌&&◌, List, length, take, drop, ◌==◌, refl}
use Rattle.std.proofs.Common.{ap, ◌∙◌, mul-suc, mul-le-mul_left, arith, add-one, length-take, length-drop}
use Rattle.std.proofs.Math.Nat.{mul-div-le}
use Rattle.std.proofs.ByRecursion.{All-set}
use Rattle.std.proofs.lemmas.List.{length_push, length-set, length-take-le}
use Rattle.std.proofs.lemmas.Bool.{cond_both}
use Rattle.std.specs.List.{AllByRecursion}
use Rattle.std.specs.Simd.{first_chunks}
use Rattle.store.specs.Stores.{Shape, bucket_words, is_bucket, replaced}
use Rattle.store.specs.Tails.{entry_words, kind_at, number_at, numbers_in, replayed, tail_span, words_at, write_kind}
use Rattle.store.specs.Layout.{bucket_count, buckets_in, most_buckets, span_of}

pub length-first_chunks : (w n : ℕ) (xs : List ℕ) → length (first_chunks w n xs) ≡ n
length-first_chunks w zero xs = refl
length-first_chunks w (suc n) xs = ap suc (length-first_chunks w n (drop w xs))

-- each chunk of a list that is long enough is whole
pub all_whole : (w n : ℕ) (xs : List ℕ) → w * n ≤ length xs → AllByRecursion (λ b. length b ≡ w) (first_chunks w n xs)
all_whole w zero xs h = tt
all_whole w (suc n) xs h =
    let s = mul-suc w n in
    (omega (arith, length-take w xs, s), all_whole w n (drop w xs) (omega (arith, length-drop w xs, s)))

-- the buckets in a list fit it, at any width and limit
fitting : (w most words : ℕ) → w * min (words / w) most ≤ words
fitting w most words =
    let h : min (words / w) most ≤ words / w = omega arith in
    let k : w * min (words / w) most ≤ w * (words / w) = mul-le-mul_left w h in
    omega (arith, mul-div-le words w)

pub buckets_fit : (words : ℕ) → bucket_words * bucket_count words ≤ words
buckets_fit words = fitting bucket_words most_buckets words

-- entries of a word each: there is room for as many as there are words
pub one_wide : (used words : ℕ) → used ≤ span_of (words / 1) → used ≤ span_of words
one_wide used words h = omega arith

-- the log is at the front of a list that has room for the span
pub list_shape : (words entries : List ℕ) (used : ℕ) → used ≤ span_of (length entries)
    → Shape (buckets_in words) (span_of (length entries)) (take used entries)
list_shape words entries used h =
    record {
      forty = all_whole bucket_words (bucket_count (length words)) words (buckets_fit (length words));
      narrow = omega arith;
      within = omega (arith, length-take used entries);
      counted = omega (arith, length-first_chunks bucket_words (bucket_count (length words)) words);
    }

pub length_numbers : (k : ℕ) (tail : List ℕ) → length (numbers_in k tail) ≡ k
length_numbers zero tail = refl
length_numbers (suc k) tail = length_push (numbers_in k tail) (number_at tail k) ∙ add-one (length (numbers_in k tail)) ∙ ap suc (length_numbers k tail)

pub length-replayed : (k : ℕ) (tail : List ℕ) (bs : List (List ℕ)) → length (replayed k tail bs) ≡ length bs
length-replayed zero tail bs = refl
length-replayed (suc k) tail bs =
    let r = replayed k tail bs in
    let n = number_at tail k in
    cond_both (kind_at tail k == write_kind && is_bucket (length r) n) (replaced r n (words_at tail k)) r (λ z. length z ≡ length bs)
    (λ _. length-set r (n - 1) (words_at tail k) ∙ length-replayed k tail bs) (λ _. length-replayed k tail bs)

-- a write leaves each bucket whole, since its entry is whole
pub replayed_whole : (k : ℕ) (tail : List ℕ) (bs : List (List ℕ)) → entry_words * k ≤ length tail
    → AllByRecursion (λ b. length b ≡ bucket_words) bs → AllByRecursion (λ b. length b ≡ bucket_words) (replayed k tail bs)
replayed_whole zero tail bs h all = all
replayed_whole (suc k) tail bs h all =
    let r = replayed k tail bs in
    let n = number_at tail k in
    let before = replayed_whole k tail bs (omega arith) all in
    let whole : length (words_at tail k) ≡ bucket_words =
    length-take-le bucket_words (drop (entry_words * k + 2) tail) (omega (arith, length-drop (entry_words * k + 2) tail)) in
    cond_both (kind_at tail k == write_kind && is_bucket (length r) n) (replaced r n (words_at tail k)) r
    (λ z. AllByRecursion (λ b. length b ≡ bucket_words) z)
    (λ _. All-set (λ b. length b ≡ bucket_words) r (n - 1) (words_at tail k) whole before) (λ _. before)

-- the entries in use are whole
pub tail_fits : (used words : ℕ) → used ≤ tail_span words → entry_words * used ≤ words
tail_fits used words h =
    let k : entry_words * used ≤ entry_words * (words / entry_words) = mul-le-mul_left entry_words (omega arith) in
    omega (arith, mul-div-le words entry_words)

-- the log is the numbers in the tail
pub tail_shape : (base tail : List ℕ) (used : ℕ) → used ≤ tail_span (length tail)
    → Shape (replayed used tail (buckets_in base)) (tail_span (length tail)) (numbers_in used tail)
tail_shape base tail used h =
    let plain = list_shape base tail 0 (omega arith) in
    record {
      forty = replayed_whole used tail (buckets_in base) (tail_fits used (length tail) h) plain.forty;
      narrow = omega arith;
      within = omega (arith, length_numbers used tail);
      counted = omega (arith, length-replayed used tail (buckets_in base), plain.counted);
    }
