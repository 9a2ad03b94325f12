-- Runs: lists of Orams, the first just begun, each related to the next by the call of its turn. Latest first.
use Rattle.std.specs.Prelude.{ℕ, List, [], ◌∷◌, map}
use Rattle.record.specs.declared.kind.RecordKind.{Ghosts as KindMeaning}
use Rattle.store.specs.declared.interface.BucketStore.{Ghosts as StoreMeaning}
use Rattle.posmap.specs.declared.interface.PositionMap.{Ghosts as MapMeaning}
use Rattle.history.specs.Histories.{Call, History}
use Rattle.oram.specs.declared.oram.Oram.{Oram}
use Rattle.oram.specs.Calls.{Does, Outcome}
use Rattle.oram.specs.Orams.{Begun}
use Rattle.oram.specs.Worked.{Worked, turn_of}

-- a turn of a run: a call, its coins, and how it ended
pub record Step (R : Type 0) : Type 0 where
  pub call : Call R
  pub coins : List ℕ
  pub outcome : Outcome R

-- the history that it makes
abbrev pub history_of : {R : Type 0} → List (Step R) → History R
history_of steps = map (λ s. turn_of s.call s.coins s.outcome) steps

module _ {K S P F : Type 0} (kind : KindMeaning K) (store : StoreMeaning S) (map : MapMeaning P F) where
  -- a run of these steps through these Orams, refused calls included
  pub data Run : List (Step K) → List (Oram K S P) → Type 0 where
    begins : {o : Oram K S P} → Begun store map o → Run [] (o ∷ [])
    goes_on : {s : Step K} {steps : List (Step K)} {o o' : Oram K S P} {os : List (Oram K S P)}
        → Does kind store map s.coins o o' s.call s.outcome → Run steps (o ∷ os) → Run (s ∷ steps) (o' ∷ o ∷ os)

  -- something holds of the history and the Oram after each call, and at the beginning
  abbrev pub AfterEach : (History K → Oram K S P → Type 0) → List (Step K) → List (Oram K S P) → Type 0
  AfterEach Q steps [] = Unit {0}
  AfterEach Q [] (o ∷ os) = Q [] o
  AfterEach Q (s ∷ steps) (o ∷ os) = Q (history_of (s ∷ steps)) o × AfterEach Q steps os

  -- in every run, after each call, the Oram is what the turns so far say
  abbrev pub RunsAreWorked : Type 0
  RunsAreWorked = (steps : List (Step K)) (os : List (Oram K S P)) → Run steps os → AfterEach (Worked kind store map) steps os
