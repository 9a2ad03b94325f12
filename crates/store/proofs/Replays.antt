-- The writes of a tail, made in turn and looked up from the newest on.
use Rattle.std.proofs.Common.{◌≡◌, ℕ, zero, suc, ◌+◌, ◌-◌, ◌*◌, ◌<◌, ◌≤◌, Bool, true, false, cond, ◌&&◌, eqb, leb, List, [], ◌∷◌, length, get_or, drop, Option, Some, None, unwrap_or, sym, refl, ap, ◌∙◌, inl, inr, add-one, arith}
use Rattle.std.proofs.lemmas.List.{get_or-set_same, get_or-set_other, get_or_append_left, get_or_push, length-take-le, length-drop}
use Rattle.std.proofs.lemmas.Bool.{and_from, and_right, and_parts, cond-true, cond-false, eqb-true, eqb-false, leb-true, both_ways, cases_lt}
use Rattle.std.specs.Option.{option_map}
use Rattle.std.specs.Simd.{first_chunks}
use Rattle.tree.specs.declared.numbers.BucketNumber.{BucketNumber}
use Rattle.store.specs.Layout.{KeepsPast, buckets_in, bucket_count, overwritten, start_of, used_words}
use Rattle.store.specs.Shapes.{length_numbers, length-replayed}
use Rattle.store.specs.Stores.{bucket_of, bucket_words, is_bucket, replaced}
use Rattle.store.specs.Tails.{IsLatestWrite, after_entry, entry_words, is_write_of, kind_at, latest, latest_write, number_at, numbers_in, replayed, words_at, write_kind}
use Rattle.store.proofs.Chunks.{get_or-first_chunks}
use Rattle.store.proofs.Entries.{write_cut}
use Rattle.store.proofs.Logs.{bucket_within, buckets_long, bucket-written}

-- the latest write among the entries, each cut out of the tail, is that of the tail
none_latest : (tail : List ℕ) (used n : ℕ) → ((j : ℕ) → j < used → is_write_of tail j n ≡ false) → latest_write used tail n ≡ None
none_latest tail zero n none = refl
none_latest tail (suc used) n none =
    cond-false (is_write_of tail used n) _ _ (none used (omega arith)) ∙ none_latest tail used n (λ j h. none j (omega arith))

some_latest : (tail : List ℕ) (used n k : ℕ) → k < used → is_write_of tail k n ≡ true
    → ((j : ℕ) → k < j → j < used → is_write_of tail j n ≡ false) → latest_write used tail n ≡ Some k
some_latest tail zero n k h is later = absurd (omega arith)
some_latest tail (suc used) n k h is later =
    elim (cases_lt k used) [
      | inl l ↦ cond-false (is_write_of tail used n) _ _ (later used l (omega arith))
          ∙ some_latest tail used n k l is (λ j g u. later j g (omega arith))
      | inr l ↦
          let e : used ≡ k = omega arith in
          cond-true (is_write_of tail used n) _ _ (ap (λ j. is_write_of tail j n) e ∙ is) ∙ ap Some e
    ]

-- entry j of the entries in use is entry j of the tail
write_of : (tail : List ℕ) (used n j : ℕ) → j < used
    → is_write_of (get_or (first_chunks entry_words used tail) j []) 0 n ≡ is_write_of tail j n
write_of tail used n j h =
    ap (λ e. is_write_of e 0 n) (get_or-first_chunks entry_words used tail j h) ∙ write_cut tail j n

pub latest_found : (tail : List ℕ) (used n : ℕ) (es : List (List ℕ)) (found : Option ℕ) → es ≡ first_chunks entry_words used tail
    → length es ≡ used → IsLatestWrite es n found → latest_write used tail n ≡ found
latest_found tail used n es None e l is =
    none_latest tail used n (λ j h. sym (write_of tail used n j h) ∙ ap (λ xs. is_write_of (get_or xs j []) 0 n) (sym e) ∙ is j (omega arith))
latest_found tail used n es (Some k) e l is =
    let within : k < used = omega (arith, is.0) in
    some_latest tail used n k within
    (sym (write_of tail used n k within) ∙ ap (λ xs. is_write_of (get_or xs k []) 0 n) (sym e) ∙ is.1)
    (λ j g h. sym (write_of tail used n j h) ∙ ap (λ xs. is_write_of (get_or xs j []) 0 n) (sym e) ∙ is.2 j g (omega arith))

-- a bucket after a write of another, or of itself
other_bucket : (bs : List (List ℕ)) (m n : ℕ) (ws : List ℕ) → is_bucket (length bs) m ≡ true → is_bucket (length bs) n ≡ true
    → (m ≡ n → ⊥) → bucket_of (replaced bs m ws) n ≡ bucket_of bs n
other_bucket bs m n ws p q ne =
    let a = leb-true 1 m (and_parts (leb 1 m) (leb m (length bs)) p).0 in
    let b = leb-true 1 n (and_parts (leb 1 n) (leb n (length bs)) q).0 in
    get_or-set_other bs (m - 1) (n - 1) ws [] (λ e. ne (omega arith))

same_bucket : (bs : List (List ℕ)) (n : ℕ) (ws : List ℕ) → is_bucket (length bs) n ≡ true → bucket_of (replaced bs n ws) n ≡ ws
same_bucket bs n ws q =
    let parts = and_parts (leb 1 n) (leb n (length bs)) q in
    let a = leb-true 1 n parts.0 in
    let b = leb-true n (length bs) parts.1 in
    get_or-set_same bs (n - 1) ws [] (omega arith)

-- one entry more: it is the latest write of n, or the one before it still is
latest_more : (r : List (List ℕ)) (tail : List ℕ) (k n : ℕ) (old : List ℕ) → is_bucket (length r) n ≡ true
    → bucket_of r n ≡ latest k tail n old → bucket_of (after_entry tail k r) n ≡ latest (suc k) tail n old
latest_more r tail k n old was before =
    go (eqb (kind_at tail k) write_kind) (is_bucket (length r) (number_at tail k)) (eqb (number_at tail k) n) refl refl
  where
    go : (a b e : Bool) → is_bucket (length r) (number_at tail k) ≡ b → eqb (number_at tail k) n ≡ e
        → bucket_of (cond (a && b) (replaced r (number_at tail k) (words_at tail k)) r) n
        ≡ unwrap_or (option_map (words_at tail) (cond (a && e) (Some k) (latest_write k tail n))) old
    go false b e p q = before
    go true true true p q =
        let same : number_at tail k ≡ n = eqb-true (number_at tail k) n q in
        ap (λ m. bucket_of (replaced r m (words_at tail k)) n) same ∙ same_bucket r n (words_at tail k) was
    go true false true p q =
        let same : number_at tail k ≡ n = eqb-true (number_at tail k) n q in
        absurd (both_ways (is_bucket (length r) n) (ap (is_bucket (length r)) (sym same) ∙ p) was)
    go true true false p q = other_bucket r (number_at tail k) n (words_at tail k) p was (eqb-false (number_at tail k) n q) ∙ before
    go true false false p q = before

-- a bucket of the replayed is its latest write, else as it was
pub replayed-latest : (k : ℕ) (tail : List ℕ) (bs : List (List ℕ)) (n : ℕ) → is_bucket (length bs) n ≡ true
    → bucket_of (replayed k tail bs) n ≡ latest k tail n (bucket_of bs n)
replayed-latest zero tail bs n there = refl
replayed-latest (suc k) tail bs n there =
    latest_more (replayed k tail bs) tail k n (bucket_of bs n) (ap (λ l. is_bucket l n) (length-replayed k tail bs) ∙ there)
    (replayed-latest k tail bs n there)

-- what is answered where a test holds tells that it does, and none that it does not
pub answered_if : {X : Type 0} (b : Bool) (x y : X) → Some x ≡ cond b (Some y) None → (b ≡ true) × (x ≡ y)
answered_if {X} true x y e = (refl, cc)
answered_if {X} false x y e = let z : ◌≡◌ {A = ℕ} 0 1 = cc in absurd (omega arith)

pub not_answered_if : {X : Type 0} (b : Bool) (y : X) → None ≡ cond b (Some y) None → b ≡ false
not_answered_if {X} true y e = let z : ◌≡◌ {A = ℕ} 0 1 = cc in absurd (omega arith)
not_answered_if {X} false y e = refl

-- a bucket that begins at an answered start ends within its list
pub start_fits : (words : List ℕ) (n start : ℕ) → Some start ≡ cond (is_bucket (bucket_count (length words)) n) (Some (start_of n)) None
    → start + bucket_words ≤ length words
start_fits words n start s =
    let count = bucket_count (length words) in
    let found = answered_if (is_bucket count n) start (start_of n) s in
    let parts = and_parts (leb 1 n) (leb n count) found.0 in
    let w = bucket_within words n (leb-true 1 n parts.0) (leb-true n count parts.1) in
    omega (arith, found.1, w.0, w.1)

-- what an entry leaves of the base: a write of a bucket that is there, and one of a bucket that is not
module _ (base tail : List ℕ) (k : ℕ) where
  pub entry_made : (n : BucketNumber) (start : ℕ) (zs : List ℕ)
      → Some n ≡ cond (eqb (kind_at tail k) write_kind) (Some (record { 0 = number_at tail k })) None
      → Some start ≡ cond (is_bucket (bucket_count (length base)) n.0) (Some (start_of n.0)) None
      → entry_words * k + entry_words ≤ length tail → zs ≡ overwritten base start (words_at tail k)
      → (buckets_in zs ≡ after_entry tail k (buckets_in base)) × KeepsPast base zs
  entry_made n start zs e s fits z =
      let count = bucket_count (length base) in
      let is_write = answered_if (eqb (kind_at tail k) write_kind) n _ e in
      let number : n.0 ≡ number_at tail k = ap (λ (m : BucketNumber). m.0) is_write.1 in
      let found = answered_if (is_bucket count n.0) start (start_of n.0) s in
      let parts = and_parts (leb 1 n.0) (leb n.0 count) found.0 in
      let long : length (words_at tail k) ≡ bucket_words =
      length-take-le bucket_words (drop (entry_words * k + 2) tail) (omega (arith, length-drop (entry_words * k + 2) tail)) in
      let w = bucket-written base n.0 (words_at tail k) zs (leb-true 1 n.0 parts.0) (leb-true n.0 count parts.1) long
      (z ∙ ap (λ a. overwritten base a (words_at tail k)) found.1) in
      let is : is_bucket (length (buckets_in base)) (number_at tail k) ≡ true =
      ap (is_bucket (length (buckets_in base))) (sym number) ∙ ap (λ l. is_bucket l n.0) (buckets_long base) ∙ found.0 in (
        w.holds ∙ ap (λ m. replaced (buckets_in base) m (words_at tail k)) number
            ∙ sym (cond-true (eqb (kind_at tail k) write_kind && is_bucket (length (buckets_in base)) (number_at tail k)) _ _
            (and_from _ _ is_write.0 is)),
        w.past,
      )

  pub entry_missed : (n : BucketNumber) → Some n ≡ cond (eqb (kind_at tail k) write_kind) (Some (record { 0 = number_at tail k })) None
      → None ≡ cond (is_bucket (bucket_count (length base)) n.0) (Some (start_of n.0)) None
      → buckets_in base ≡ after_entry tail k (buckets_in base)
  entry_missed n e s =
      let number : n.0 ≡ number_at tail k =
      ap (λ (m : BucketNumber). m.0) (answered_if (eqb (kind_at tail k) write_kind) n _ e).1 in
      let none : is_bucket (length (buckets_in base)) (number_at tail k) ≡ false =
      ap (is_bucket (length (buckets_in base))) (sym number) ∙ ap (λ l. is_bucket l n.0) (buckets_long base)
      ∙ not_answered_if (is_bucket (bucket_count (length base)) n.0) (start_of n.0) s in
      sym (cond-false (eqb (kind_at tail k) write_kind && is_bucket (length (buckets_in base)) (number_at tail k)) _ _ (and_right _ _ none))

-- one entry more is made in the base
pub settled_more : (base base₁ base₂ tail : List ℕ) (k : ℕ) → length base₁ ≡ length base
    → buckets_in base₁ ≡ replayed k tail (buckets_in base) → KeepsPast base base₁
    → buckets_in base₂ ≡ after_entry tail k (buckets_in base₁) → KeepsPast base₁ base₂
    → (buckets_in base₂ ≡ replayed (k + 1) tail (buckets_in base)) × KeepsPast base base₂
settled_more base base₁ base₂ tail k l h p h₂ p₂ =
    let u : used_words base ≡ used_words base₁ = ap (λ m. bucket_words * bucket_count m) (sym l) in (
      h₂ ∙ ap (after_entry tail k) h ∙ ap (λ j. replayed j tail (buckets_in base)) (sym (add-one k)),
      ap (λ m. drop m base₂) u ∙ p₂ ∙ ap (λ m. drop m base₁) (sym u) ∙ p,
    )

-- entry k of the log
pub get_d_numbers : (used : ℕ) (tail : List ℕ) (k : ℕ) → k < used → get_or (numbers_in used tail) k 0 ≡ number_at tail k
get_d_numbers zero tail k h = absurd (omega arith)
get_d_numbers (suc used) tail k h =
    elim (cases_lt k used) [
      | inl l ↦ get_or_append_left (numbers_in used tail) (number_at tail used ∷ []) 0 k (omega (arith, length_numbers used tail))
          ∙ get_d_numbers used tail k l
      | inr l ↦
          let e : used ≡ k = omega arith in
          get_or_push (numbers_in used tail) (number_at tail used) 0 k (length_numbers used tail ∙ e) ∙ ap (number_at tail) e
    ]
