-- What is read is cut to no less than its width, since each word fits.
use Rattle.std.proofs.Common.{sym, refl, ◌∙◌, rules}
use Rattle.record.specs.Calibration.{calibration_of}
use Rattle.record.specs.Made.{six_words}
use Rattle.record.specs.Same.{same_calibration}
use Rattle.record.proofs.calibration.methods.CalibrationRecordRecordKind.from_words.Goals as goal

pub returns-clause-value : goal.returns-clause-value
returns-clause-value c =
    same_calibration _ (calibration_of c.args.words) (search rules) c.halves-coefficient.ensures.low (search rules)
    c.halves-circumference.ensures.low (search rules) refl refl

pub returns-clause-ignored : goal.returns-clause-ignored
returns-clause-ignored c = λ ws h.
    same_calibration _ (calibration_of c.args.words) (search rules) c.halves-coefficient.ensures.low (search rules)
    c.halves-circumference.ensures.low (search rules) refl refl ∙ sym (six_words ws c.args.words h)
