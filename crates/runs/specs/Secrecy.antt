-- Secrecy: two lists of calls that differ only in records named, records put and get against put leave equal logs under relabelled
-- coins. Statements about every run of an Oram of one kind of record, one store and one map.
use Rattle.std.specs.Prelude.{◌≡◌, ℕ, ◌<◌, List, ◌∷◌, length, drop, Option, ◌≢◌}
use Rattle.std.specs.List.{AllByRecursion}
use Rattle.record.specs.declared.kind.RecordKind.{Ghosts as KindMeaning}
use Rattle.store.specs.declared.interface.BucketStore.{Ghosts as StoreMeaning}
use Rattle.posmap.specs.declared.interface.PositionMap.{Ghosts as MapMeaning}
use Rattle.posmap.specs.Maps.{row_at}
use Rattle.history.specs.Histories.{History, accepted_in, calls_of, coins_of, prescribed_log}
use Rattle.history.specs.Secrecy.{Alike, LeavesMove, Relabelling, ByNextShowing, relabelled_for}
use Rattle.oram.specs.declared.oram.Oram.{Oram}
use Rattle.oram.specs.Calls.{is_done}
use Rattle.oram.specs.Orams.{rows_of}
use Rattle.oram.specs.Runs.{AfterEach, Run, Step, history_of}
use Rattle.runs.specs.Pairs.{Began, ByEight, NamesBelow, Pairwise, Region, Shaped, SmallRows, counted_by, logs_of}

module _ {K S P F : Type 0} (kind : KindMeaning K) (store : StoreMeaning S) (map : MapMeaning P F) where
  -- every row's log is the one that the turns so far prescribe
  abbrev pub Prescribed : History K → Oram K S P → Type 0
  Prescribed h o =
      (r : ℕ) → r < length (rows_of store map o) → (row_at (rows_of store map o) r).log ≡ prescribed_log (row_at (rows_of store map o) r).depth r h

  -- PRESCRIBED: in every run, after each call, every row's log is the one prescribed by the turns so far
  abbrev pub LogsArePrescribed : Type 0
  LogsArePrescribed = (steps : List (Step K)) (os : List (Oram K S P)) → Run kind store map steps os → AfterEach kind store map Prescribed steps os

  -- the second of two runs is made under the relabelled coins of the whole lists, the turns that the first accepted counting as
  -- accepted in both
  abbrev pub Relabelled : ℕ → List (Step K) → List (Step K) → Type 0
  Relabelled N ss ts =
      coins_of (history_of ts) ≡ relabelled_for N (history_of ss) (counted_by (history_of ss) (history_of ts)) (coins_of (history_of ss))

  -- two runs of alike lists, begun with equal N and depths, the second under the relabelled coins of the first
  pub record SideBySide (N : ℕ) (Ds : List ℕ) (ss ts : List (Step K)) (os ps : List (Oram K S P)) : Type 0 where
    pub first : Run kind store map ss os
    pub second : Run kind store map ts ps
    pub first_began : Began (Region store map N Ds) os
    pub second_began : Began (Region store map N Ds) ps
    pub alike : Alike (calls_of (history_of ss)) (calls_of (history_of ts))
    pub relabelled : Relabelled N ss ts

  -- EQUAL: if both accept the same turns, then after each call every row's log is equal in both
  abbrev pub LogsAreEqual : Type 0
  LogsAreEqual =
      (N : ℕ) (Ds : List ℕ) (ss ts : List (Step K)) (os ps : List (Oram K S P)) → SideBySide N Ds ss ts os ps
      → accepted_in (history_of ss) ≡ accepted_in (history_of ts) → Pairwise (λ o p. logs_of store map o ≡ logs_of store map p) os ps

  -- the turns that a run of the first list accepts, held fixed, beside any alike list: g is that list, each turn counting as
  -- accepted where the run's is
  pub record Beside (N : ℕ) (Ds : List ℕ) (ss : List (Step K)) (os : List (Oram K S P)) (g : History K) : Type 0 where
    pub first : Run kind store map ss os
    pub began : Began (Region store map N Ds) os
    pub alike : Alike (calls_of (history_of ss)) (calls_of g)
    pub counted : accepted_in (history_of ss) ≡ accepted_in g

  -- MEANT: the relabelled coins are those of equal next showings, and no others
  abbrev pub CoinsAreRelabelled : Type 0
  CoinsAreRelabelled =
      (N : ℕ) (Ds : List ℕ) (ss : List (Step K)) (os : List (Oram K S P)) (g : History K) → Beside N Ds ss os g
      → ByNextShowing K N Ds (history_of ss) g

  -- MOVES ONLY: for each row one permutation of its accepted requests, given by the lists and the accepted turns alone and the same
  -- for all coins, says where each new leaf goes; every other coin stays
  abbrev pub LeavesOnlyMove : Type 0
  LeavesOnlyMove =
      (N : ℕ) (Ds : List ℕ) (ss : List (Step K)) (os : List (Oram K S P)) (g : History K) → Beside N Ds ss os g
      → LeavesMove K N Ds (history_of ss) g

  -- ONE-TO-ONE AND ONTO: on all coins with as many entries for each call, among words, and among those below 2 ^ D of their row
  abbrev pub RelabellingIsOneToOne : Type 0
  RelabellingIsOneToOne =
      (N : ℕ) (Ds : List ℕ) (ss : List (Step K)) (os : List (Oram K S P)) (g : History K) → Beside N Ds ss os g
      → Relabelling K N Ds (history_of ss) g

  -- besides side by side: every row begun with the same span and own leaves, both equally fit, and both lists name only records
  -- below N
  pub record Matched (N : ℕ) (rows : List (ℕ × ℕ × ℕ)) (unfit : Option ℕ) (ss ts : List (Step K)) (os ps : List (Oram K S P)) : Type 0 where
    pub first : Run kind store map ss os
    pub second : Run kind store map ts ps
    pub first_began : Began (Shaped store map N rows unfit) os
    pub second_began : Began (Shaped store map N rows unfit) ps
    pub alike : Alike (calls_of (history_of ss)) (calls_of (history_of ts))
    pub relabelled : Relabelled N ss ts
    pub first_names : AllByRecursion (NamesBelow N) (calls_of (history_of ss))
    pub second_names : AllByRecursion (NamesBelow N) (calls_of (history_of ts))

  -- DIFFER BY 8 ONLY: the first turn at which one accepts and the other refuses is refused by 8
  abbrev pub DifferByEightOnly : Type 0
  DifferByEightOnly =
      (N : ℕ) (rows : List (ℕ × ℕ × ℕ)) (unfit : Option ℕ) (ss ts : List (Step K)) (os ps : List (Oram K S P)) → Matched N rows unfit ss ts os ps
      → (j : ℕ) (s t : Step K) (before before' : List (Step K)) → drop j ss ≡ s ∷ before → drop j ts ≡ t ∷ before'
      → accepted_in (history_of before) ≡ accepted_in (history_of before') → (is_done s.outcome ≢ is_done t.outcome)
      → ByEight s.outcome × ByEight t.outcome

  -- SMALL NEVER DIFFERS: if every row can be asked at most 31 numbers, both accept the same turns, and the logs are equal outright
  abbrev pub SmallNeverDiffers : Type 0
  SmallNeverDiffers =
      (N : ℕ) (rows : List (ℕ × ℕ × ℕ)) (unfit : Option ℕ) (ss ts : List (Step K)) (os ps : List (Oram K S P)) → Matched N rows unfit ss ts os ps
      → SmallRows rows
      → (accepted_in (history_of ss) ≡ accepted_in (history_of ts)) × Pairwise (λ o p. logs_of store map o ≡ logs_of store map p) os ps
