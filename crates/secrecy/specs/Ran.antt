-- What is reported of a list of calls that was run.
use Rattle.std.specs.Prelude.{ℕ, List, ◌∷◌, reverse}
use Rattle.record.specs.declared.kind.RecordKind.{Ghosts as KindMeaning}
use Rattle.store.specs.declared.interface.BucketStore.{Ghosts as StoreMeaning}
use Rattle.posmap.specs.declared.interface.PositionMap.{Ghosts as MapMeaning}
use Rattle.history.specs.Histories.{Call}
use Rattle.oram.specs.declared.oram.Oram.{Oram}
use Rattle.oram.specs.Calls.{Outcome}
use Rattle.oram.specs.Runs.{Run}
use Rattle.secrecy.specs.Lists.{steps_of}
use Rattle.secrecy.specs.Seen.{SeenAfterEach}

-- a run of these calls under these coins with these outcomes has ended at o, and this was seen after each call
pub record RanTo {K S P F : Type 0} (kind : KindMeaning K) (store : StoreMeaning S) (map : MapMeaning P F) (calls : List (Call K))
    (coins : List (List ℕ)) (outcomes : List (Outcome K)) (seen : List (List ℕ)) (o : Oram K S P) : Type 0 where
  pub before : List (Oram K S P)
  pub run : Run kind store map (steps_of calls coins outcomes) (o ∷ before)
  pub looked : SeenAfterEach store map (reverse seen) (o ∷ before)
