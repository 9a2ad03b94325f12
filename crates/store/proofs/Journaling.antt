-- A transfer added to a tail.
use Rattle.std.proofs.Common.{◌≡◌, ℕ, ◌+◌, ◌*◌, ◌<◌, ◌≤◌, true, false, ◌&&◌, eqb, ltb, leb, List, [], ◌∷◌, ◌++◌, length, drop, Some, None, Ok, Err, unwrap_or, sym, ap, ◌∙◌, add-one, arith}
use Rattle.std.proofs.lemmas.Bool.{and_from, and_left, and_parts, leb-true, cond-true, cond-false, eq-eqb, ne_eqb, lt-ltb, le-ltb}
use Rattle.std.specs.Option.{option_map}
use Rattle.store.specs.declared.fault.StoreFault.TheVariants.{NoEntry}
use Rattle.store.specs.Layout.{KeepsPast, overwritten, buckets_in, bucket_count, laid_out, used_words}
use Rattle.store.specs.Shapes.{length_numbers, length-replayed, tail_fits}
use Rattle.store.specs.Stores.{bucket_words, entered, entry_of, is_bucket, replaced}
use Rattle.store.specs.Tails.{after_entry, entry_words, kind_at, latest, latest_write, number_at, numbers_in, read_kind, replayed, tail_span, words_at, write_kind}
use Rattle.store.proofs.Entries.{front_laid, kind_laid, number_laid, numbers_same, replayed_same, words_laid}
use Rattle.store.proofs.Logs.{buckets_long}
use Rattle.store.proofs.Chunks.{laid_out-first_chunks}
use Rattle.store.proofs.Replays.{get_d_numbers}

pub journal_long : (used : ℕ) (tail base : List ℕ) → length (replayed used tail (buckets_in base)) ≡ bucket_count (length base)
journal_long used tail base = length-replayed used tail (buckets_in base) ∙ buckets_long base

-- a free entry is whole
pub entry_fits : (used words : ℕ) → used + 1 ≤ tail_span words → entry_words * used + entry_words ≤ words
entry_fits used words h = omega (arith, tail_fits (used + 1) words h)

-- an entry's number is the entry of the log
pub number_read : (tail : List ℕ) (used k x : ℕ) → k < used → x ≡ number_at tail k
    → Ok (record { 0 = x }) ≡ entry_of (numbers_in used tail) k
number_read tail used k x h e =
    let l = length_numbers used tail in
    let there : ltb k (length (numbers_in used tail)) ≡ true = lt-ltb k _ (omega arith) in
    ap (λ y. Ok (record { 0 = y })) (e ∙ sym (get_d_numbers used tail k h))
    ∙ sym (cond-true (ltb k (length (numbers_in used tail))) _ _ there)

pub number_missing : (tail : List ℕ) (used k : ℕ) → used ≤ k → Err NoEntry ≡ entry_of (numbers_in used tail) k
number_missing tail used k h =
    let l = length_numbers used tail in
    sym (cond-false (ltb k (length (numbers_in used tail))) _ _ (le-ltb k _ (omega arith)))

-- the tail u is the tail t with an entry laid out behind the first k
module _ (t : List ℕ) (k x n : ℕ) (ys u : List ℕ) (free : k + 1 ≤ tail_span (length t)) (long : length ys ≡ bucket_words)
    (laid : u ≡ overwritten t (entry_words * k) (x ∷ n ∷ ys)) where
  fits : entry_words * k ≤ length t
  fits = omega (arith, entry_fits k (length t) free)

  pub added_number : numbers_in (k + 1) u ≡ entered (numbers_in k t) n
  added_number =
      ap (λ j. numbers_in j u) (add-one k)
      ∙ ap (λ ns. ns ++ number_at u k ∷ []) (numbers_same k u t (front_laid t k x n ys u fits long laid))
      ∙ ap (λ m. numbers_in k t ++ m ∷ []) (number_laid t k x n ys u fits long laid)

  before : (bs : List (List ℕ)) → replayed (k + 1) u bs ≡ after_entry u k (replayed k t bs)
  before bs =
      ap (λ j. replayed j u bs) (add-one k) ∙ ap (after_entry u k) (replayed_same k u t bs (front_laid t k x n ys u fits long laid))

  -- a read changes no bucket
  pub added_read : (bs : List (List ℕ)) → x ≡ read_kind → replayed (k + 1) u bs ≡ replayed k t bs
  added_read bs e =
      let kind : eqb (kind_at u k) write_kind ≡ false =
      ne_eqb _ _ (λ w. let z : x ≡ write_kind = sym (kind_laid t k x n ys u fits long laid) ∙ w in absurd (omega arith)) in
      before bs ∙ cond-false (eqb (kind_at u k) write_kind && is_bucket (length (replayed k t bs)) (number_at u k)) _ _ (and_left _ _ kind)

  -- a write replaces its bucket
  pub added_write : (bs : List (List ℕ)) → x ≡ write_kind → is_bucket (length bs) n ≡ true
      → replayed (k + 1) u bs ≡ replaced (replayed k t bs) n ys
  added_write bs e there =
      let r = replayed k t bs in
      let number = number_laid t k x n ys u fits long laid in
      let is : is_bucket (length r) (number_at u k) ≡ true =
      ap (λ m. is_bucket (length r) m) number ∙ ap (λ l. is_bucket l n) (length-replayed k t bs) ∙ there in
      before bs
      ∙ cond-true (eqb (kind_at u k) write_kind && is_bucket (length r) (number_at u k)) _ _
      (and_from _ _ (eq-eqb _ _ (kind_laid t k x n ys u fits long laid ∙ e)) is)
      ∙ ap (λ m. replaced r m (words_at u k)) number ∙ ap (λ ws. replaced r n ws) (words_laid t k x n ys u fits long laid)

-- a bucket of the store is one of the base
pub base_bucket : (used : ℕ) (tail base : List ℕ) (n : ℕ) → is_bucket (length (replayed used tail (buckets_in base))) n ≡ true
    → (is_bucket (length (buckets_in base)) n ≡ true) × (1 ≤ n) × (n ≤ bucket_count (length base))
base_bucket used tail base n h =
    let is : is_bucket (length (buckets_in base)) n ≡ true = ap (λ l. is_bucket l n) (sym (length-replayed used tail (buckets_in base))) ∙ h in
    let parts = and_parts (leb 1 n) (leb n (length (buckets_in base))) is in
    (is, leb-true 1 n parts.0, omega (arith, leb-true n (length (buckets_in base)) parts.1, buckets_long base))

-- where the latest write is, so are the words
pub latest-some : (used : ℕ) (tail : List ℕ) (n k : ℕ) (old : List ℕ) → Some k ≡ latest_write used tail n
    → words_at tail k ≡ latest used tail n old
latest-some used tail n k old e = ap (λ o. unwrap_or (option_map (words_at tail) o) old) e

pub latest-none : (used : ℕ) (tail : List ℕ) (n : ℕ) (old : List ℕ) → None ≡ latest_write used tail n → old ≡ latest used tail n old
latest-none used tail n old e = ap (λ o. unwrap_or (option_map (words_at tail) o) old) e

-- a base brought up to date, word by word
pub base_settled : (base tail last : List ℕ) (used : ℕ) → length last ≡ length base
    → buckets_in last ≡ replayed used tail (buckets_in base) → KeepsPast base last
    → last ≡ laid_out (replayed used tail (buckets_in base)) ++ drop (used_words base) base
base_settled base tail last used l h p =
    laid_out-first_chunks bucket_words (bucket_count (length last)) last
    ∙ ap (λ bs. laid_out bs ++ drop (used_words last) last) h
    ∙ ap (λ xs. laid_out (replayed used tail (buckets_in base)) ++ xs)
    (ap (λ m. drop (bucket_words * bucket_count m) last) l ∙ p)
