-- Two records are the same when their fields are: a fact about a number has one proof at most.
use Rattle.std.specs.Prelude.{◌≡◌, ◌^◌, ◌<◌, length}
use mathlib.Core.HLevel.{is_prop→PathP}
use Rattle.std.proofs.Math.Bridge.{le_prop}
use Rattle.std.proofs.Math.Nat.{ℕ_set}
use Rattle.record.specs.declared.calibration.CalibrationRecord.{CalibrationRecord}
use Rattle.record.specs.declared.page.LeafPage.{LeafPage}

pub same_calibration : (x y : CalibrationRecord) → x.tag ≡ y.tag → x.coefficient ≡ y.coefficient → x.constant ≡ y.constant
    → x.circumference ≡ y.circumference → x.bay ≡ y.bay → x.odometer ≡ y.odometer → x.day ≡ y.day → x ≡ y
same_calibration x y tag coefficient constant circumference bay odometer day i = record {
  tag = tag i;
  coefficient = coefficient i;
  constant = constant i;
  circumference = circumference i;
  bay = bay i;
  odometer = odometer i;
  day = day i;
  tag_fits = is_prop→PathP (λ j. tag j < 2 ^ 64) (λ j. le_prop) x.tag_fits y.tag_fits i;
  coefficient_fits = is_prop→PathP (λ j. coefficient j < 2 ^ 16) (λ j. le_prop) x.coefficient_fits y.coefficient_fits i;
  constant_fits = is_prop→PathP (λ j. constant j < 2 ^ 16) (λ j. le_prop) x.constant_fits y.constant_fits i;
  circumference_fits = is_prop→PathP (λ j. circumference j < 2 ^ 16) (λ j. le_prop) x.circumference_fits y.circumference_fits i;
  bay_fits = is_prop→PathP (λ j. bay j < 2 ^ 16) (λ j. le_prop) x.bay_fits y.bay_fits i;
}

pub same_page : (x y : LeafPage) → x.leaves ≡ y.leaves → x ≡ y
same_page x y leaves i =
    record { leaves = leaves i; eight = is_prop→PathP (λ j. length (leaves j) ≡ 8) (λ j. ℕ_set _ _) x.eight y.eight i }
