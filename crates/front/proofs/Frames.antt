-- What never changes of a row in front of a map, from what never changes of the map.
use Rattle.std.proofs.Common.{◌≡◌, ℕ, suc, List, [], ◌∷◌, length, Option, sym, refl, ap, ◌∙◌}
use Rattle.posmap.specs.Maps.{MapRow, SameFrame, fixed_of}
use Rattle.front.specs.Fronts.{fit_up_to, front_rows, front_unfit}
use Rattle.front.proofs.Zeroed.{same_unfit}

-- as many rows as before
fixed_long : (rows : List MapRow) → length (fixed_of rows) ≡ length rows
fixed_long [] = refl
fixed_long (row ∷ rows) = ap suc (fixed_long rows)

pub same_long : (rows rows' : List MapRow) → fixed_of rows' ≡ fixed_of rows → length rows' ≡ length rows
same_long rows rows' e = sym (fixed_long rows') ∙ (ap length e ∙ fixed_long rows)

module _ (most D : ℕ) {count count' span span' : ℕ} {below below' : List ℕ} {rows rows' : List MapRow} {unfit unfit' : Option ℕ}
    (log log' : List ℕ) (frame : SameFrame below below' rows rows' unfit unfit') (ec : count' ≡ count) (es : span' ≡ span) where
  pub unfit_kept : front_unfit (fit_up_to most D count' (length below') (length rows')) unfit'
      ≡ front_unfit (fit_up_to most D count (length below) (length rows)) unfit
  unfit_kept = same_unfit most D ec frame.length_stays (same_long rows rows' frame.rows_stay) frame.unfit_stays

  pub rows_kept : fixed_of (front_rows D below' span' log' rows') ≡ fixed_of (front_rows D below span log rows)
  rows_kept =
      ap (λ n. (D, n, span') ∷ fixed_of rows') frame.length_stays
      ∙ (ap (λ s. (D, length below, s) ∷ fixed_of rows') es ∙ ap (λ r. (D, length below, span) ∷ r) frame.rows_stay)
