-- Two runs beside one another.
use Rattle.std.specs.Prelude.{◌≡◌, ℕ, ◌<◌, List, [], ◌∷◌, map, Option}
use Rattle.std.specs.List.{AllByRecursion}
use Rattle.tree.specs.Blocks.{capacity}
use Rattle.store.specs.declared.interface.BucketStore.{Ghosts as StoreMeaning}
use Rattle.posmap.specs.declared.interface.PositionMap.{Ghosts as MapMeaning}
use Rattle.posmap.specs.Maps.{fixed_of}
use Rattle.history.specs.Histories.{Call, opening, getting, putting, draining, tearing, History}
use Rattle.oram.specs.declared.oram.Oram.{Oram}
use Rattle.oram.specs.Calls.{Outcome, refused, did}
use Rattle.oram.specs.Orams.{depths_of, records_of, rows_of, unfit_of}

-- the logs of all rows: what the host sees
abbrev pub logs_of : {K S P F : Type 0} → StoreMeaning S → MapMeaning P F → Oram K S P → List (List ℕ)
logs_of store meaning o = map (λ row. row.log) (rows_of store meaning o)

-- the Oram with which a run began, latest first
abbrev pub Began : {A : Type 0} → (A → Type 0) → List A → Type 0
Began Q [] = ⊥
Began Q (o ∷ []) = Q o
Began Q (o ∷ (p ∷ os)) = Began Q (p ∷ os)

-- of two lists, each pair that stands at one place
abbrev pub Pairwise : {A : Type 0} → (A → A → Type 0) → List A → List A → Type 0
Pairwise Q [] [] = Unit {0}
Pairwise Q [] (p ∷ ps) = ⊥
Pairwise Q (o ∷ os) [] = ⊥
Pairwise Q (o ∷ os) (p ∷ ps) = Q o p × Pairwise Q os ps

-- N records, and rows of these depths
abbrev pub Region : {K S P F : Type 0} → StoreMeaning S → MapMeaning P F → ℕ → List ℕ → Oram K S P → Type 0
Region store meaning N Ds o = (records_of meaning o ≡ N) × (depths_of store meaning o ≡ Ds)

-- besides, each row's depth, count of own leaves and span, and the unfit row if there is one
abbrev pub Shaped : {K S P F : Type 0} → StoreMeaning S → MapMeaning P F → ℕ → List (ℕ × ℕ × ℕ) → Option ℕ → Oram K S P → Type 0
Shaped store meaning N rows unfit o =
    (records_of meaning o ≡ N) × (fixed_of (rows_of store meaning o) ≡ rows) × (unfit_of store meaning o ≡ unfit)

-- every row can be asked at most 31 numbers
abbrev pub SmallRows : List (ℕ × ℕ × ℕ) → Type 0
SmallRows rows = AllByRecursion (λ row. row.1 < capacity) rows

-- every turn of the second history counts as accepted where that of the first was
abbrev pub counted_by : {R : Type 0} → History R → History R → History R
counted_by [] g = []
counted_by (t ∷ h) [] = []
counted_by (t ∷ h) (u ∷ g) = record { call = u.call; coins = u.coins; accepted = t.accepted } ∷ counted_by h g

-- a call names no record that there is not
abbrev pub NamesBelow : {R : Type 0} → ℕ → Call R → Type 0
NamesBelow N opening = Unit {0}
NamesBelow N (getting n) = n < N
NamesBelow N (putting n x) = n < N
NamesBelow N draining = Unit {0}
NamesBelow N tearing = Unit {0}

-- if it is refused, then by 8
abbrev pub ByEight : {R : Type 0} → Outcome R → Type 0
ByEight (refused c) = c.number ≡ 8
ByEight (did x) = Unit {0}
