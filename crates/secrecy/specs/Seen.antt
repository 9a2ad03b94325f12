-- Logs one behind the other, each behind its length: as one list of numbers they tell all logs.
use Rattle.std.specs.Prelude.{◌≡◌, ℕ, List, [], ◌∷◌, length}
use Rattle.std.specs.List.{flat_map}
use Rattle.store.specs.declared.interface.BucketStore.{Ghosts as StoreMeaning}
use Rattle.posmap.specs.declared.interface.PositionMap.{Ghosts as MapMeaning}
use Rattle.oram.specs.declared.oram.Oram.{Oram}
use Rattle.runs.specs.Pairs.{logs_of}

abbrev pub flat_log : List ℕ → List ℕ
flat_log log = length log ∷ log

abbrev pub flat : List (List ℕ) → List ℕ
flat logs = flat_map flat_log logs

-- what was seen after each call of a run, latest first: the Oram with which it began was not looked at
abbrev pub SeenAfterEach : {K S P F : Type 0} → StoreMeaning S → MapMeaning P F → List (List ℕ) → List (Oram K S P) → Type 0
SeenAfterEach store map seen [] = ⊥
SeenAfterEach store map [] (o ∷ []) = Unit {0}
SeenAfterEach store map [] (o ∷ (p ∷ os)) = ⊥
SeenAfterEach store map (s ∷ seen) (o ∷ os) = (s ≡ flat (logs_of store map o)) × SeenAfterEach store map seen os
