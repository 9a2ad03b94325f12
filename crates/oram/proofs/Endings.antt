-- What a call does, from how it ends.
use Rattle.std.proofs.Common.{◌≡◌, ℕ, suc, ◌+◌, ◌<◌, List, Some, None, Ok, Err, Option, sym, refl, ap, ◌∙◌, subst, add-one}
use Rattle.std.specs.Option.{option_map}
use Rattle.std.proofs.lemmas.Option.{none-some}
use Rattle.std.proofs.lemmas.Bool.{false≢true, lt-ltb}
use Rattle.record.specs.declared.kind.RecordKind.{Ghosts as KindMeaning}
use Rattle.store.specs.declared.interface.BucketStore.{Ghosts as StoreMeaning}
use Rattle.card.specs.declared.fault.CardFault.{Ghosts as CardMeaning}
use Rattle.posmap.specs.declared.interface.PositionMap.{Ghosts as MapMeaning}
use Rattle.posmap.specs.Maps.{Card, SameFrame, naming, or_else, unless}
use Rattle.row.specs.Rows as rows
use Rattle.front.specs.Fronts.{own}
use Rattle.front.proofs.Frames.{rows_kept, unfit_kept}
use Rattle.history.specs.Histories.{Call, opening, getting, putting, draining, tearing}
use Rattle.oram.specs.declared.fault.OramFault.{OramFault}
use Rattle.oram.specs.declared.oram.Oram.{Oram}
use Rattle.oram.specs.Calls.{Does, Drained, Frame, refused, did, Requested, TornOff, ask_time, card_in, open_time, refusal_of, request_refusal}
use Rattle.oram.specs.Orams.{Ordered, most_records, records_of, unfit_of}
use Rattle.oram.specs.Requests.{Asks, oram_card}

-- a fit Oram with a record left to open
pub open_passes : (unfit : Option ℕ) (N opened : ℕ) → None ≡ naming 1 unfit → opened < N → None ≡ or_else (naming 1 unfit) (open_time N opened)
open_passes unfit N opened e l = e ∙ sym (ap (λ x. or_else x (open_time N opened)) (sym e) ∙ ap (λ b. unless b (own 4)) (lt-ltb opened N l) ∙ e)

-- an Oram keeps what never changes, if its row and the map below it do
pub frame_kept : {K S P F : Type 0} (kind : KindMeaning K) (store : StoreMeaning S) (maps : MapMeaning P F) (coins : List ℕ) (o o' : Oram K S P)
    → SameFrame (maps.leaves o.front.below) (maps.leaves o'.front.below) (maps.rows o.front.below) (maps.rows o'.front.below)
    (maps.unfit o.front.below) (maps.unfit o'.front.below)
    → rows.Frame store o.front.row o'.front.row → Frame kind store maps coins o o'
frame_kept kind store maps coins o o' lower own =
    let D = o.front.row.depth in
    let log = store.log o.front.row.store in
    let log' = store.log o'.front.row.store in
    record {
      rows = record {
        length_stays = lower.length_stays;
        rows_stay = rw own.depth (rows_kept most_records D log log' lower own.count own.span);
        unfit_stays = rw own.depth (unfit_kept most_records D log log' lower own.count own.span);
      };
      buckets = own.count;
    }

module _ {K S P F : Type 0} (kind : KindMeaning K) (store : StoreMeaning S) (maps : MapMeaning P F) (coins : List ℕ) (o : Oram K S P) where
  -- refused with nothing done
  pub refused_at_once : (call : Call K) (c : Card) → Some c ≡ refusal_of store maps o call coins
      → Does kind store maps coins o o call (refused c)
  refused_at_once call c e =
      record {
        refusal = e;
        same = λ _. refl;
        frame = record { rows = record { length_stays = refl; rows_stay = refl; unfit_stays = refl }; buckets = refl };
        accepted = λ _ h. absurd (false≢true h);
      }

  -- a request in time, refused with nothing done
  pub refused_ask : (card : CardMeaning F) (n : ℕ) (put : Option (List ℕ)) (f : OramFault F)
      → oram_card {T = Option (List ℕ)} card (Err f) ≡ request_refusal store maps o n coins → Asks kind store maps card coins o o n put (Err f)
  refused_ask card n put f e =
      record {
        refusal = e;
        same = λ _. refl;
        frame = record { rows = record { length_stays = refl; rows_stay = refl; unfit_stays = refl }; buckets = refl };
        opened = refl;
        done = λ _. tt;
      }

  -- what comes before the coins refuses, or does not
  pub time_refuses : (u time rest : Option Card) (c : Card) → Some c ≡ or_else u time → Some c ≡ or_else u (or_else time rest)
  time_refuses (Some x) time rest c e = e
  time_refuses None (Some x) rest c e = e
  time_refuses None None rest c e = absurd (none-some _ (sym e))

  time_passes : (u time rest : Option Card) → None ≡ or_else u time → rest ≡ or_else u (or_else time rest)
  time_passes None None rest e = refl
  time_passes None (Some x) rest e = absurd (none-some _ e)
  time_passes (Some x) time rest e = absurd (none-some _ e)

  module _ (card : CardMeaning F) (o' : Oram K S P) (n : ℕ) (put : Option (List ℕ)) (time : Option Card)
      (passed : None ≡ or_else (naming 1 (unfit_of store maps o)) time) where
    -- a request that is refused by its coins, a log or a queue
    pub request_refused : (call : Call K)
        → or_else (naming 1 (unfit_of store maps o)) (or_else time (request_refusal store maps o n coins)) ≡ refusal_of store maps o call coins
        → (f : OramFault F) → Asks kind store maps card coins o o' n put (Err f) → Does kind store maps coins o o' call (refused (card_in card f))
    request_refused call whole f a =
        record {
          refusal = a.refusal ∙ (time_passes (naming 1 (unfit_of store maps o)) time (request_refusal store maps o n coins) passed ∙ whole);
          same = λ _. a.same refl;
          frame = a.frame;
          accepted = λ _ h. absurd (false≢true h);
        }

    accepted_whole : (words : Option (List ℕ)) → Asks kind store maps card coins o o' n put (Ok words)
        → None ≡ or_else (naming 1 (unfit_of store maps o)) (or_else time (request_refusal store maps o n coins))
    accepted_whole words a =
        a.refusal ∙ time_passes (naming 1 (unfit_of store maps o)) time (request_refusal store maps o n coins) passed

  -- a get that is accepted
  pub get_done : (card : CardMeaning F) (o' : Oram K S P) (n : ℕ)
      → None ≡ or_else (naming 1 (unfit_of store maps o)) (ask_time (records_of maps o) o.opened n)
      → (words : Option (List ℕ)) (x : Option K) → x ≡ option_map kind.made words → Asks kind store maps card coins o o' n None (Ok words)
      → Does kind store maps coins o o' (getting n) (did x)
  get_done card o' n passed words x e a =
      record {
        refusal = accepted_whole card o' n None (ask_time (records_of maps o) o.opened n) passed words a;
        same = λ h. absurd (false≢true (sym h));
        frame = a.frame;
        accepted = λ ord _. record {
          answer = ap did (e ∙ ap (option_map kind.made) (a.done ord).0);
          opened = a.opened;
          work = (a.done ord).1;
          ordered = (a.done ord).2;
        };
      }

  -- a put that is accepted
  pub put_done : (card : CardMeaning F) (o' : Oram K S P) (n : ℕ) (y : K) (laid : List ℕ) → laid ≡ kind.laid y
      → None ≡ or_else (naming 1 (unfit_of store maps o)) (ask_time (records_of maps o) o.opened n)
      → (words : Option (List ℕ)) (x : Option K) → x ≡ option_map kind.made words → Asks kind store maps card coins o o' n (Some laid) (Ok words)
      → Does kind store maps coins o o' (putting n y) (did x)
  put_done card o' n y laid el passed words x e a =
      record {
        refusal = accepted_whole card o' n (Some laid) (ask_time (records_of maps o) o.opened n) passed words a;
        same = λ h. absurd (false≢true (sym h));
        frame = a.frame;
        accepted = λ ord _. record {
          answer = ap did (e ∙ ap (option_map kind.made) (a.done ord).0);
          opened = a.opened;
          work = subst (λ ws. Requested kind store maps coins o o' n (λ _. Some ws)) el (a.done ord).1;
          ordered = (a.done ord).2;
        };
      }

  -- an open that is accepted: then one more record is opened
  abbrev pub one_more : Oram K S P → Oram K S P
  one_more x = record { front = x.front; opened = x.opened + 1; kind = x.kind }

  pub open_done : (card : CardMeaning F) (o' : Oram K S P) → None ≡ or_else (naming 1 (unfit_of store maps o)) (open_time (records_of maps o) o.opened)
      → (words : Option (List ℕ)) → Asks kind store maps card coins o o' o.opened None (Ok words)
      → Does kind store maps coins o (one_more o') opening (did None)
  open_done card o' passed words a =
      record {
        refusal = accepted_whole card o' o.opened None (open_time (records_of maps o) o.opened) passed words a;
        same = λ h. absurd (false≢true (sym h));
        frame = record { rows = a.frame.rows; buckets = a.frame.buckets };
        accepted = λ ord _.
            let d = a.done ord in
            record {
              answer = refl;
              opened = add-one o'.opened ∙ ap suc a.opened;
              work = record { rows = d.1.rows; arrives = d.1.arrives; arrives_as = d.1.arrives_as; row = d.1.row; below = d.1.below };
              ordered = d.2;
            };
      }

  -- a drain that is accepted
  pub drain_done : (o' : Oram K S P) → None ≡ refusal_of store maps o draining coins → Frame kind store maps coins o o' → o'.opened ≡ o.opened
      → (Ordered store maps o → Drained kind store maps coins o o' × Ordered store maps o') → Does kind store maps coins o o' draining (did None)
  drain_done o' e frame opened work =
      record {
        refusal = e;
        same = λ h. absurd (false≢true (sym h));
        frame = frame;
        accepted = λ ord _. record { answer = refl; opened = opened; work = (work ord).0; ordered = (work ord).1 };
      }

  -- a tear-off
  pub tear_done : (o' : Oram K S P) → Frame kind store maps coins o o' → o'.opened ≡ o.opened → TornOff kind store maps coins o o'
      → (Ordered store maps o → Ordered store maps o') → Does kind store maps coins o o' tearing (did None)
  tear_done o' frame opened work order =
      record {
        refusal = refl;
        same = λ h. absurd (false≢true (sym h));
        frame = frame;
        accepted = λ ord _. record { answer = refl; opened = opened; work = work; ordered = order ord };
      }
