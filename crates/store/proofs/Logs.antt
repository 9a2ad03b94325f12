-- The log at the front of its list, and buckets in a list of words.
use Rattle.std.proofs.Common.{◌≡◌, ℕ, ◌+◌, ◌-◌, ◌<◌, ◌≤◌, true, ltb, List, length, get_or, take, drop, replicate, Ok, sym, ap, ◌∙◌, arith}
use Rattle.std.proofs.lemmas.List.{length-take-le, get_or-take}
use Rattle.std.proofs.lemmas.Bool.{lt-ltb, cond-true}
use Rattle.std.specs.Simd.{first_chunks}
use Rattle.store.specs.Layout.{KeepsPast, buckets_in, bucket_count, span_of, start_of, used_words, overwritten, blanked}
use Rattle.store.specs.Shapes.{length-first_chunks, buckets_fit}
use Rattle.store.specs.Stores.{bucket_words, bucket_of, replaced, entry_of, zeroed}
use Rattle.store.proofs.Chunks.{get_or-first_chunks, first_chunks-overwritten, first_chunks-blanked, length-overwritten, length-blanked, drop_overwritten_past}

pub log_long : (es : List ℕ) (used : ℕ) → used ≤ span_of (length es) → length (take used es) ≡ used
log_long es used h = length-take-le used es (omega arith)

-- a number that stands in the list is the entry of the log
pub entry_read : (es : List ℕ) (used k x : ℕ) → used ≤ span_of (length es) → k < used → x ≡ get_or es k 0
    → Ok (record { 0 = x }) ≡ entry_of (take used es) k
entry_read es used k x few h e =
    let l = log_long es used few in
    let there : ltb k (length (take used es)) ≡ true = lt-ltb k (length (take used es)) (omega arith) in
    ap (λ y. Ok (record { 0 = y })) (e ∙ sym (get_or-take used es k 0 h)) ∙ sym (cond-true (ltb k (length (take used es))) _ _ there)

pub buckets_long : (ws : List ℕ) → length (buckets_in ws) ≡ bucket_count (length ws)
buckets_long ws = length-first_chunks bucket_words (bucket_count (length ws)) ws

-- bucket n as the words that begin where it does
pub bucket_words_lem : (ws : List ℕ) (n : ℕ) → 1 ≤ n → n ≤ bucket_count (length ws)
    → take bucket_words (drop (start_of n) ws) ≡ bucket_of (buckets_in ws) n
bucket_words_lem ws n l h = sym (get_or-first_chunks bucket_words (bucket_count (length ws)) ws (n - 1) (omega arith))

-- a bucket's words end within those of all buckets
pub bucket_within : (ws : List ℕ) (n : ℕ) → 1 ≤ n → n ≤ bucket_count (length ws)
    → (start_of n + bucket_words ≤ used_words ws) × (used_words ws ≤ length ws)
bucket_within ws n l h = (omega arith, buckets_fit (length ws))

-- what the words of one bucket, written over, leave
pub record Written (ws : List ℕ) (n : ℕ) (ys zs : List ℕ) : Type 0 where
  pub long : length zs ≡ length ws
  pub holds : buckets_in zs ≡ replaced (buckets_in ws) n ys
  pub past : KeepsPast ws zs

pub bucket-written : (ws : List ℕ) (n : ℕ) (ys zs : List ℕ) → 1 ≤ n → n ≤ bucket_count (length ws) → length ys ≡ bucket_words
    → zs ≡ overwritten ws (start_of n) ys → Written ws n ys zs
bucket-written ws n ys zs l h e z =
    let w = bucket_within ws n l h in
    let k = bucket_count (length ws) in
    let within : start_of n + length ys ≤ length ws = omega (arith, w.0, w.1) in
    let long : length zs ≡ length ws = ap length z ∙ length-overwritten ws (start_of n) ys within in
    record {
      long = long;
      holds = ap (λ m. first_chunks bucket_words (bucket_count m) zs) long ∙ ap (first_chunks bucket_words k) z
          ∙ first_chunks-overwritten bucket_words k ws (n - 1) ys (omega arith) w.1 e;
      past = ap (drop (used_words ws)) z ∙ drop_overwritten_past ws (start_of n) ys (used_words ws) (omega (arith, w.0)) within;
    }

-- what the words of all buckets, made 0, leave
pub buckets_blanked : (ws zs : List ℕ) → zs ≡ blanked (used_words ws) ws
    → (length zs ≡ length ws) × (buckets_in zs ≡ zeroed (buckets_in ws))
buckets_blanked ws zs z =
    let k = bucket_count (length ws) in
    let long : length zs ≡ length ws = ap length z ∙ length-blanked (used_words ws) ws (buckets_fit (length ws)) in (
      long,
      ap (λ m. first_chunks bucket_words (bucket_count m) zs) long ∙ ap (first_chunks bucket_words k) z ∙ first_chunks-blanked bucket_words k ws
          ∙ ap (λ m. replicate m (replicate bucket_words 0)) (sym (buckets_long ws)),
    )
