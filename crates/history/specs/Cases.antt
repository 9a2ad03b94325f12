-- The bench case of relabelling: two records, one row of depth 1. After the opening the first list gets records 1, 1, the second
-- 0, 1.
use Rattle.std.specs.Prelude.{◌≡◌, ℕ, true, List, [], ◌∷◌, reverse}
use Rattle.history.specs.Histories.{Call, opening, getting, Turn, History, coins_of, leaves_in, shown}
use Rattle.history.specs.Secrecy.{SideBySide, relabelled_for}

-- an accepted call with its new leaf, both flush leaves being 0
abbrev pub accepts : Call ℕ → ℕ → Turn ℕ
accepts c x = record { call = c; coins = x ∷ 0 ∷ 0 ∷ []; accepted = true }

-- the two lists, latest first, with the new leaves 1, 0, 1, 1 and the relabelled ones
abbrev pub opened_first : History ℕ
opened_first = accepts opening 0 ∷ accepts opening 1 ∷ []

abbrev pub first : History ℕ
first = accepts (getting 1) 1 ∷ accepts (getting 1) 1 ∷ opened_first

abbrev pub opened_second : History ℕ
opened_second = accepts opening 1 ∷ accepts opening 0 ∷ []

abbrev pub second : History ℕ
second = accepts (getting 1) 1 ∷ accepts (getting 0) 1 ∷ opened_second

-- the leaves that the row shows, oldest first
abbrev pub shows_in_first : List ℕ
shows_in_first =
    shown {R = ℕ} 0 [] 0 ∷ shown 0 (accepts opening 1 ∷ []) 1 ∷ shown 0 opened_first 1 ∷ shown 0 (accepts (getting 1) 1 ∷ opened_first) 1 ∷ []

abbrev pub shows_in_second : List ℕ
shows_in_second =
    shown {R = ℕ} 0 [] 0 ∷ shown 0 (accepts opening 0 ∷ []) 1 ∷ shown 0 opened_second 0 ∷ shown 0 (accepts (getting 0) 1 ∷ opened_second) 1 ∷ []

pub record RelabellingCase : Type 0 where
  -- the lists are side by side
  pub side : SideBySide ℕ 2 (1 ∷ []) first second
  -- the first list's new leaves, oldest first, and the relabelled ones
  pub before : reverse (leaves_in 0 (coins_of first)) ≡ 1 ∷ 0 ∷ 1 ∷ 1 ∷ []
  pub after : reverse (leaves_in 0 (relabelled_for 2 first second (coins_of first))) ≡ 0 ∷ 1 ∷ 1 ∷ 1 ∷ []
  pub coins : coins_of second ≡ relabelled_for 2 first second (coins_of first)
  -- both lists show the same
  pub shows_first : shows_in_first ≡ 0 ∷ 0 ∷ 0 ∷ 1 ∷ []
  pub shows_second : shows_in_second ≡ 0 ∷ 0 ∷ 0 ∷ 1 ∷ []
