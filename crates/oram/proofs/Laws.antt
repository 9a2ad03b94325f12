-- The laws of a call from what it does.
use Rattle.std.proofs.Common.{◌≡◌, ℕ, ◌+◌, ◌/◌, true, List, [], ◌∷◌, map, get_or, drop, None, Option, sym, refl, ap, ◌∙◌, arith}
use Rattle.std.proofs.lemmas.List.{length-append}
use Rattle.std.proofs.lemmas.Bool.{false≢true}
use Rattle.tree.specs.Entries.{drain_entries, drain_moves, request_entries, request_moves, total}
use Rattle.tree.proofs.Counts.{entry_counts}
use Rattle.record.specs.declared.kind.RecordKind.{Ghosts as KindMeaning}
use Rattle.store.specs.declared.interface.BucketStore.{Ghosts as StoreMeaning}
use Rattle.posmap.specs.declared.interface.PositionMap.{Ghosts as MapMeaning}
use Rattle.posmap.specs.Maps.{MapRow, rows_drained, rows_swapped, rows_torn}
use Rattle.history.specs.Histories.{Call, opening, getting, putting, draining, tearing, History, plain_array, sort}
use Rattle.oram.specs.declared.oram.Oram.{Oram}
use Rattle.oram.specs.Calls.{Does, Done, Outcome, refused, did, answer_of, is_done, requested_by, rows_requested}
use Rattle.oram.specs.Orams.{depths_of, records_of, rows_of}
use Rattle.oram.specs.Worked.{Lawful, Worked, moves_after, moves_in}
use Rattle.oram.proofs.Accepts.{accepted, never_eight, none_done, small_room}
use Rattle.oram.proofs.Works.{does_works, in_time}

-- the entries that a swap makes in the rows of a map
swapped_moves : (rows : List MapRow) (i : ℕ) (coins : List ℕ)
    → moves_in (rows_swapped rows i coins) ≡ moves_in rows + total request_moves (map (λ row. row.depth) rows)
swapped_moves [] i coins = refl
swapped_moves (row ∷ rows) i coins =
    let h = swapped_moves rows (i / 8) (drop 3 coins) in
    let a = length-append row.log (request_entries row.depth (get_or row.own (i / 8) 0) (get_or coins 1 0 ∷ get_or coins 2 0 ∷ [])) in
    let b = entry_counts.request row.depth (get_or row.own (i / 8) 0) (get_or coins 1 0 ∷ get_or coins 2 0 ∷ []) refl in
    omega arith

requested_moves : (rows : List MapRow) (n : ℕ) (coins : List ℕ)
    → moves_in (rows_requested rows n coins) ≡ moves_in rows + total request_moves (map (λ row. row.depth) rows)
requested_moves [] n coins = refl
requested_moves (row ∷ rows) n coins =
    let h = swapped_moves rows n (drop 3 coins) in
    let a = length-append row.log (request_entries row.depth (get_or row.own n 0) (get_or coins 1 0 ∷ get_or coins 2 0 ∷ [])) in
    let b = entry_counts.request row.depth (get_or row.own n 0) (get_or coins 1 0 ∷ get_or coins 2 0 ∷ []) refl in
    omega arith

drained_moves : (rows : List MapRow) (coins : List ℕ)
    → moves_in (rows_drained rows coins) ≡ moves_in rows + total drain_moves (map (λ row. row.depth) rows)
drained_moves [] coins = refl
drained_moves (row ∷ rows) coins =
    let h = drained_moves rows (drop 1 coins) in
    let a = length-append row.log (drain_entries row.depth (get_or coins 0 0)) in
    let b = entry_counts.drain row.depth (get_or coins 0 0) in
    omega arith

torn_moves : (rows : List MapRow) → moves_in (rows_torn rows) ≡ 0
torn_moves [] = refl
torn_moves (row ∷ rows) = let h = torn_moves rows in omega arith

module _ {K S P F : Type 0} (kind : KindMeaning K) (store : StoreMeaning S) (maps : MapMeaning P F)
    (again : (x : K) → kind.made (kind.laid x) ≡ x) (coins : List ℕ) (o o' : Oram K S P) where
  call_moves : (call : Call K) (outcome : Outcome K) → Done kind store maps coins o o' call outcome
      → moves_in (rows_of store maps o') ≡ moves_after (sort call) (depths_of store maps o) (moves_in (rows_of store maps o))
  call_moves opening outcome d = ap moves_in d.work.rows ∙ requested_moves (rows_of store maps o) o.opened coins
  call_moves (getting n) outcome d = ap moves_in d.work.rows ∙ requested_moves (rows_of store maps o) n coins
  call_moves (putting n x) outcome d = ap moves_in d.work.rows ∙ requested_moves (rows_of store maps o) n coins
  call_moves draining outcome d = ap moves_in d.work.rows ∙ drained_moves (rows_of store maps o) coins
  call_moves tearing outcome d = ap moves_in d.work.rows ∙ torn_moves (rows_of store maps o)

  -- what a get or a put finds is what the plain array holds
  call_right : (call : Call K) (x : Option K) → Does kind store maps coins o o' call (did x) → (h : History K) → Worked kind store maps h o
      → did x ≡ did (answer_of call (get_or (plain_array (records_of maps o) h) (requested_by o.opened call) None))
  call_right opening x d h w = (d.accepted w.ordered refl).answer
  call_right (getting n) x d h w =
      (d.accepted w.ordered refl).answer
      ∙ ap did (w.array n (in_time kind store maps again coins o o' d.frame h w n d.refusal).0.1)
  call_right (putting n y) x d h w =
      (d.accepted w.ordered refl).answer
      ∙ ap did (w.array n (in_time kind store maps again coins o o' d.frame h w n d.refusal).0.1)
  call_right draining x d h w = (d.accepted w.ordered refl).answer
  call_right tearing x d h w = (d.accepted w.ordered refl).answer

  pub lawful : (call : Call K) (outcome : Outcome K) → Does kind store maps coins o o' call outcome → Lawful kind store maps coins o o' call outcome
  lawful call outcome d =
      record {
        worked = does_works kind store maps again coins o o' call outcome d;
        right = right outcome d;
        moves = λ ord e. call_moves call outcome (d.accepted ord e);
        small = λ ord s c e n. never_eight store maps coins o call (small_room store maps coins o ord s) c (sym d.refusal ∙ e) n;
        accepts = λ a. none_done outcome (d.refusal ∙ accepted store maps coins o call a);
      }
    where
      right : (x : Outcome K) → Does kind store maps coins o o' call x → (h : History K) → Worked kind store maps h o → is_done x ≡ true
          → x ≡ did (answer_of call (get_or (plain_array (records_of maps o) h) (requested_by o.opened call) None))
      right (did x) d h w e = call_right call x d h w
      right (refused c) d h w e = absurd (false≢true e)
