-- The words of a calibration record, and the record that any words give.
use Rattle.std.specs.Prelude.{ℕ, List, [], ◌∷◌, slice_index}
use Rattle.std.proofs.Common.{arith}
use Rattle.record.specs.declared.calibration.CalibrationRecord.{CalibrationRecord}
use Rattle.record.specs.Packing.{low_part, high_part, packed}

-- the tag's low half, its high half, coefficient + 65,536 × constant, circumference + 65,536 × bay, odometer, day, 0, 0
abbrev pub calibration_words : CalibrationRecord → List ℕ
calibration_words c =
    low_part 32 c.tag ∷ high_part 32 c.tag ∷ packed 16 c.coefficient c.constant
    ∷ packed 16 c.circumference c.bay ∷ c.odometer ∷ c.day ∷ 0 ∷ 0 ∷ []

-- the record that any words give: each part is cut to its width, and words after the sixth are ignored
abbrev pub calibration_of : List ℕ → CalibrationRecord
calibration_of ws =
    record {
      tag = packed 32 (low_part 32 (slice_index ws 0)) (low_part 32 (slice_index ws 1));
      coefficient = low_part 16 (slice_index ws 2);
      constant = low_part 16 (high_part 16 (slice_index ws 2));
      circumference = low_part 16 (slice_index ws 3);
      bay = low_part 16 (high_part 16 (slice_index ws 3));
      odometer = slice_index ws 4;
      day = slice_index ws 5;
      tag_fits = omega arith;
      coefficient_fits = omega arith;
      constant_fits = omega arith;
      circumference_fits = omega arith;
      bay_fits = omega arith;
    }
