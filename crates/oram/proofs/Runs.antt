-- Every run follows its history.
use Rattle.std.proofs.Common.{◌≡◌, ℕ, zero, suc, List, [], ◌∷◌, length, get_or, replicate, None, Option, sym, refl, ap, ◌∙◌, subst}
use Rattle.std.specs.Option.{option_map}
use Rattle.steps.specs.Order.{content}
use Rattle.steps.proofs.Order.{order_kept}
use Rattle.record.specs.declared.kind.RecordKind.{Ghosts as KindMeaning}
use Rattle.store.specs.declared.interface.BucketStore.{Ghosts as StoreMeaning}
use Rattle.posmap.specs.declared.interface.PositionMap.{Ghosts as MapMeaning}
use Rattle.posmap.specs.Maps.{MapRow}
use Rattle.front.proofs.Zeroed.{zero_row}
use Rattle.oram.specs.declared.oram.Oram.{Oram}
use Rattle.oram.specs.Orams.{Begun, records_of, rows_of}
use Rattle.oram.specs.Runs.{Run, begins, goes_on, RunsAreWorked, Step, history_of}
use Rattle.oram.specs.Worked.{Worked}
use Rattle.oram.proofs.Follow.{AllFollow, begun_follows}
use Rattle.oram.proofs.Works.{does_works}

get_d_none : {X : Type 0} (n i : ℕ) → get_or {A = Option X} (replicate n None) i None ≡ None
get_d_none zero i = refl
get_d_none (suc n) zero = refl
get_d_none (suc n) (suc i) = get_d_none n i

module _ {K S P F : Type 0} (kind : KindMeaning K) (store : StoreMeaning S) (maps : MapMeaning P F) where
  -- just begun, an Oram is worked by no turn at all
  pub begun_works : (o : Oram K S P) → Begun store maps o → Worked kind store maps [] o
  begun_works o b =
      let A : List MapRow → Type 0 = λ rows. AllFollow rows [] [] in
      let f = subst A (sym b.rows) (begun_follows (rows_of store maps o)) in
      record {
        ordered = b.ordered;
        logs = λ r l. (f r l).log;
        leaves = λ r m l k. (f r l).leaves m k;
        opened = b.opened;
        array = λ m l.
            ap (option_map kind.made)
            (ap (content m) (zero_row (store.buckets o.front.row.store) (store.buckets o.front.row.store) o.front.row.queue b.buckets b.queue)
            ∙ order_kept.cleared_holds m (length (store.buckets o.front.row.store)))
            ∙ sym (get_d_none (records_of maps o) m);
        can = tt;
      }

  module _ (again : (x : K) → kind.made (kind.laid x) ≡ x) where
    pub latest_works : (steps : List (Step K)) (o : Oram K S P) (os : List (Oram K S P)) → Run kind store maps steps (o ∷ os)
        → Worked kind store maps (history_of steps) o
    latest_works steps o os (begins b) = begun_works o b
    latest_works steps o os (goes_on {s = s} {o = x} {os = xs} d r) =
        does_works kind store maps again s.coins x o s.call s.outcome d _ (latest_works _ x xs r)

    pub runs_are_worked : RunsAreWorked kind store maps
    runs_are_worked steps os (begins {o = o} b) = begun_works o b
    runs_are_worked steps os (goes_on {o = x} {o' = y} {os = xs} d r) = (latest_works _ y (x ∷ xs) (goes_on d r), runs_are_worked _ (x ∷ xs) r)
