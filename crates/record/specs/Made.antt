-- The calibration record that words give: which words it comes from, and that it has all their bits.
use Rattle.std.specs.Prelude.{◌≡◌, ℕ, ◌+◌, ◌^◌, ◌<◌, ◌≤◌, List, [], ◌∷◌, ◌++◌, length, take, slice_index, refl}
use Rattle.std.proofs.Common.{sym, ap, ◌∙◌, arith}
use Rattle.record.specs.declared.calibration.CalibrationRecord.{CalibrationRecord}
use Rattle.record.specs.Calibration.{calibration_words, calibration_of}
use Rattle.record.specs.Packing.{low_part, high_part, packed}
use Rattle.record.specs.Words.{words_from}
use Rattle.record.specs.PackingLemmas.{packed_parts, low_same, low_fits, low_packed, high_packed, high_fits}
use Rattle.record.specs.Same.{same_calibration}
use Rattle.record.specs.WordsLemmas.{words_from_part, words_from-take}

-- a number of two parts, each cut to its width, is what it was
packed_cut : (k n : ℕ) → n < 2 ^ (k + k) → packed k (low_part k n) (low_part k (high_part k n)) ≡ n
packed_cut k n h = ap (packed k (low_part k n)) (low_same k (high_part k n) (high_fits k k n h)) ∙ packed_parts k n

-- laid out and made again, a record is equal in every field
pub again : (x : CalibrationRecord) → calibration_of (calibration_words x) ≡ x
again x =
    same_calibration _ x
    (ap (λ n. packed 32 n (low_part 32 (high_part 32 x.tag))) (low_same 32 _ (low_fits 32 x.tag))
    ∙ packed_cut 32 x.tag x.tag_fits)
    (low_packed 16 x.coefficient x.constant x.coefficient_fits)
    (second x.coefficient x.constant x.coefficient_fits x.constant_fits)
    (low_packed 16 x.circumference x.bay x.circumference_fits)
    (second x.circumference x.bay x.circumference_fits x.bay_fits) refl refl
  where
    second : (low high : ℕ) → low < 2 ^ 16 → high < 2 ^ 16 → low_part 16 (high_part 16 (packed 16 low high)) ≡ high
    second low high l h = ap (low_part 16) (high_packed 16 low high l) ∙ low_same 16 high h

-- words that begin with the same six give the same record
pub six_words : (vs ws : List ℕ) → take 6 vs ≡ take 6 ws → calibration_of vs ≡ calibration_of ws
six_words vs ws e =
    let l = words_from-take 6 6 0 vs (omega arith) in
    let r = words_from-take 6 6 0 ws (omega arith) in
    ap calibration_of (sym l ∙ ap (words_from 6 0) e ∙ r)

-- the record has all bits of the six words, of which the first four are shared or split
pub six_back : (ws : List ℕ) → 6 ≤ length ws → slice_index ws 0 < 2 ^ 32 → slice_index ws 1 < 2 ^ 32 → slice_index ws 2 < 2 ^ 32
    → slice_index ws 3 < 2 ^ 32 → calibration_words (calibration_of ws) ≡ take 6 ws ++ (0 ∷ 0 ∷ [])
six_back ws long low high rates wheel =
    let l = low_fits 32 (slice_index ws 0) in
    let a = low_packed 32 _ (low_part 32 (slice_index ws 1)) l ∙ low_same 32 _ low in
    let b = high_packed 32 _ (low_part 32 (slice_index ws 1)) l ∙ low_same 32 _ high in
    same_words a b (packed_cut 16 _ rates) (packed_cut 16 _ wheel)
    ∙ ap (λ (us : List ℕ). us ++ (0 ∷ 0 ∷ [])) (words_from_part 6 0 ws long)
  where
    same_words : {a b c d a' b' c' d' e f : ℕ} → a ≡ a' → b ≡ b' → c ≡ c' → d ≡ d'
        → ◌≡◌ {A = List ℕ} (a ∷ b ∷ c ∷ d ∷ e ∷ f ∷ 0 ∷ 0 ∷ []) (a' ∷ b' ∷ c' ∷ d' ∷ e ∷ f ∷ 0 ∷ 0 ∷ [])
    same_words p q r s = cc
