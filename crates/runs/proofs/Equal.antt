-- Equal logs, the meaning of relabelled coins, moves only, one-to-one and onto: from histories to runs.
use Rattle.std.proofs.Common.{◌≡◌, ℕ, List, ap, ◌∙◌}
use Rattle.record.specs.declared.kind.RecordKind.{Ghosts as KindMeaning}
use Rattle.store.specs.declared.interface.BucketStore.{Ghosts as StoreMeaning}
use Rattle.posmap.specs.declared.interface.PositionMap.{Ghosts as MapMeaning}
use Rattle.history.specs.Histories.{History, coins_of}
use Rattle.history.specs.Secrecy as history
use Rattle.history.proofs.Keeps.{relabelling_is_one_to_one}
use Rattle.history.proofs.Logs.{logs_are_equal}
use Rattle.history.proofs.Moves.{leaves_only_move}
use Rattle.history.proofs.Showings.{relabelled_by_next_showing}
use Rattle.oram.specs.declared.oram.Oram.{Oram}
use Rattle.oram.specs.Runs.{Step, history_of}
use Rattle.runs.specs.Secrecy.{Beside, CoinsAreRelabelled, LeavesOnlyMove, LogsAreEqual, RelabellingIsOneToOne}
use Rattle.runs.proofs.Along.{all_same_logs, counted_same, run_can}

module _ {K S P F : Type 0} (kind : KindMeaning K) (store : StoreMeaning S) (maps : MapMeaning P F)
    (again : (x : K) → kind.made (kind.laid x) ≡ x) where
  pub equal : LogsAreEqual kind store maps
  equal N Ds ss ts os ps side e =
      let h = history_of ss in
      let g = history_of ts in
      let can = run_can kind store maps again N Ds ss os side.first side.first_began in
      let can' = run_can kind store maps again N Ds ts ps side.second side.second_began in
      all_same_logs kind store maps again N Ds ss ts os ps side.first side.second side.first_began side.second_began e
      (logs_are_equal K N Ds h g (record { alike = side.alike; turns = e; first_can = can }) can'
      (side.relabelled ∙ ap (λ k. history.relabelled_for N h k (coins_of h)) (counted_same h g e)))

  beside : (N : ℕ) (Ds : List ℕ) (ss : List (Step K)) (os : List (Oram K S P)) (g : History K) → Beside kind store maps N Ds ss os g
      → history.SideBySide K N Ds (history_of ss) g
  beside N Ds ss os g b =
      record { alike = b.alike; turns = b.counted; first_can = run_can kind store maps again N Ds ss os b.first b.began }

  pub meant : CoinsAreRelabelled kind store maps
  meant N Ds ss os g b = relabelled_by_next_showing K N Ds (history_of ss) g (beside N Ds ss os g b)

  pub moves_only : LeavesOnlyMove kind store maps
  moves_only N Ds ss os g b = leaves_only_move K N Ds (history_of ss) g (beside N Ds ss os g b)

  pub one_to_one : RelabellingIsOneToOne kind store maps
  one_to_one N Ds ss os g b = relabelling_is_one_to_one K N Ds (history_of ss) g (beside N Ds ss os g b)
