-- One call more of a list.
use Rattle.std.proofs.Common.{◌≡◌, ℕ, zero, suc, ◌<◌, List, [], ◌∷◌, ◌++◌, reverse, length, get_or, sym, refl, ap, ◌∙◌, subst, arith}
use Rattle.std.proofs.lemmas.List.{reverse-append}
use Rattle.record.specs.declared.kind.RecordKind.{Ghosts as KindMeaning}
use Rattle.store.specs.declared.interface.BucketStore.{Ghosts as StoreMeaning}
use Rattle.posmap.specs.declared.interface.PositionMap.{Ghosts as MapMeaning}
use Rattle.history.specs.Histories.{Call}
use Rattle.oram.specs.declared.oram.Oram.{Oram}
use Rattle.oram.specs.Calls.{Does, Outcome}
use Rattle.oram.specs.Orams.{Begun}
use Rattle.oram.specs.Runs.{Run, begins, goes_on, Step}
use Rattle.runs.specs.Pairs.{logs_of}
use Rattle.secrecy.specs.Lists.{steps_of, zipped}
use Rattle.secrecy.specs.Ran.{RanTo}
use Rattle.secrecy.specs.Seen.{SeenAfterEach, flat}

zipped-none : {R : Type 0} (cs : List (Call R)) (ds : List (List ℕ)) → zipped cs ds [] ≡ []
zipped-none [] ds = refl
zipped-none (c ∷ cs) [] = refl
zipped-none (c ∷ cs) (d ∷ ds) = refl

zipped_more : {R : Type 0} (cs : List (Call R)) (ds : List (List ℕ)) (xs : List (Outcome R)) (x : Outcome R) (i : ℕ) (c : Call R) (d : List ℕ)
    → length xs ≡ i → i < length cs → i < length ds
    → zipped cs ds (xs ++ x ∷ []) ≡ zipped cs ds xs ++ record { call = get_or cs i c; coins = get_or ds i d; outcome = x } ∷ []
zipped_more [] ds xs x i c d e l m = absurd (let n : ⊥ = omega arith in n)
zipped_more (a ∷ cs) [] xs x i c d e l m = absurd (let n : ⊥ = omega arith in n)
zipped_more (a ∷ cs) (b ∷ ds) [] x zero c d e l m = ap (λ (r : List (Step _)). record { call = a; coins = b; outcome = x } ∷ r) (zipped-none cs ds)
zipped_more (a ∷ cs) (b ∷ ds) [] x (suc i) c d e l m = absurd (let n : ⊥ = omega arith in n)
zipped_more (a ∷ cs) (b ∷ ds) (y ∷ xs) x zero c d e l m = absurd (let n : ⊥ = omega arith in n)
zipped_more (a ∷ cs) (b ∷ ds) (y ∷ xs) x (suc i) c d e l m =
    ap (λ (r : List (Step _)). record { call = a; coins = b; outcome = y } ∷ r) (zipped_more cs ds xs x i c d (omega arith) (omega arith) (omega arith))

pub steps_more : {R : Type 0} (cs : List (Call R)) (ds : List (List ℕ)) (xs : List (Outcome R)) (x : Outcome R) (i : ℕ) (c : Call R) (d : List ℕ)
    → length xs ≡ i → i < length cs → i < length ds
    → steps_of cs ds (xs ++ x ∷ []) ≡ record { call = get_or cs i c; coins = get_or ds i d; outcome = x } ∷ steps_of cs ds xs
steps_more cs ds xs x i c d e l m = ap reverse (zipped_more cs ds xs x i c d e l m) ∙ reverse-append (zipped cs ds xs) _

module _ {K S P F : Type 0} (kind : KindMeaning K) (store : StoreMeaning S) (maps : MapMeaning P F) (cs : List (Call K)) (ds : List (List ℕ)) where
  -- no call yet
  pub ran_none : (o : Oram K S P) (xs : List (Outcome K)) (ss : List (List ℕ)) → xs ≡ [] → ss ≡ [] → Begun store maps o
      → RanTo kind store maps cs ds xs ss o
  ran_none o xs ss e f b =
      subst (λ x. RanTo kind store maps cs ds x ss o) (sym e)
      (subst (λ s. RanTo kind store maps cs ds [] s o) (sym f)
      (record {
        before = [];
        run = subst (λ t. Run kind store maps t (o ∷ [])) (sym (ap reverse (zipped-none cs ds))) (begins b);
        looked = tt;
      }))

  -- one call more
  pub ran_more : (o o' : Oram K S P) (xs : List (Outcome K)) (x : Outcome K) (ss : List (List ℕ)) (s : List ℕ) (i : ℕ) (c : Call K) (d : List ℕ)
      → length xs ≡ i → i < length cs → i < length ds → RanTo kind store maps cs ds xs ss o
      → Does kind store maps (get_or ds i d) o o' (get_or cs i c) x → s ≡ flat (logs_of store maps o')
      → RanTo kind store maps cs ds (xs ++ x ∷ []) (ss ++ s ∷ []) o'
  ran_more o o' xs x ss s i c d e l m r does seen =
      record {
        before = o ∷ r.before;
        run = subst (λ t. Run kind store maps t (o' ∷ o ∷ r.before)) (sym (steps_more cs ds xs x i c d e l m)) (goes_on does r.run);
        looked = subst (λ t. SeenAfterEach store maps t (o' ∷ o ∷ r.before)) (sym (reverse-append ss (s ∷ []))) (seen, r.looked);
      }
