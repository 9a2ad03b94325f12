-- The pages and the numbers of a fit level.
use Rattle.std.proofs.Common.{◌≡◌, ℕ, ◌*◌, ◌/◌, ◌<◌, ◌≤◌, length, Some, None, Option, sym, refl, arith}
use Rattle.store.specs.declared.interface.BucketStore.{Ghosts as StoreMeaning}
use Rattle.steps.specs.Steps.{Row}
use Rattle.posmap.specs.declared.interface.PositionMap.{Ghosts as MapMeaning}
use Rattle.posmap.specs.Maps.{Card, naming}
use Rattle.front.proofs.Fits.{no_card}
use Rattle.level.specs.declared.level.Level.{Level}
use Rattle.level.specs.Facts.{fit_length}
use Rattle.level.specs.Levels.{level_leaves}
use Rattle.level.specs.Meaning.{leaves_of, own_row, pages_of, unfit_of}

past_last : (m n i : ℕ) → m ≡ 8 * n → n ≤ i / 8 → m ≤ i
past_last m n i e l = omega arith

within : (m n i : ℕ) → m ≡ 8 * n → i / 8 < n → i < m
within m n i e l = omega arith

page_within : (m n i : ℕ) → m ≡ 8 * n → i < m → i / 8 < n
page_within m n i e l = omega arith

nothing : (u : Option ℕ) (row : Row) (n : ℕ) (c : Card) → Some c ≡ naming 1 u → 0 ≡ length (level_leaves u row n)
nothing None row n c e = absurd (no_card (sym e))
nothing (Some r) row n c e = refl

module _ {S P F : Type 0} (store : StoreMeaning S) (map : MapMeaning P F) (s : Level S P) where
  module _ (fit : unfit_of store map s ≡ None) where
    -- eight leaves to a page
    pub eight_each : length (leaves_of store map s) ≡ 8 * pages_of map s
    eight_each = fit_length (unfit_of store map s) (own_row store s) (pages_of map s) fit

    pub no_number : (i : ℕ) → pages_of map s ≤ i / 8 → length (leaves_of store map s) ≤ i
    no_number i l = past_last _ (pages_of map s) i eight_each l

    pub there : (i : ℕ) → i / 8 < pages_of map s → i < length (leaves_of store map s)
    there i l = within _ (pages_of map s) i eight_each l

  pub page_there : (i : ℕ) → unfit_of store map s ≡ None → i < length (leaves_of store map s) → i / 8 < pages_of map s
  page_there i fit l = page_within _ (pages_of map s) i (eight_each fit) l

  -- an unfit level has none
  pub unfit_none : (c : Card) → Some c ≡ naming 1 (unfit_of store map s) → 0 ≡ length (leaves_of store map s)
  unfit_none c e = nothing (unfit_of store map s) (own_row store s) (pages_of map s) c e
