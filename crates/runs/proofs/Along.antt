-- What holds all along a run.
use Rattle.std.proofs.Common.{◌≡◌, ℕ, suc, ◌<◌, Bool, List, [], ◌∷◌, map, length, get_or, drop, Option, sym, refl, ap, ◌∙◌, subst, arith}
use Rattle.std.proofs.lemmas.List.{get_or-map, length-map}
use Rattle.record.specs.declared.kind.RecordKind.{Ghosts as KindMeaning}
use Rattle.store.specs.declared.interface.BucketStore.{Ghosts as StoreMeaning}
use Rattle.posmap.specs.declared.interface.PositionMap.{Ghosts as MapMeaning}
use Rattle.posmap.specs.Maps.{MapRow, no_row, row_at}
use Rattle.history.specs.Histories.{AllCan, History, Turn, accepted_in, prescribed_log}
use Rattle.oram.specs.declared.oram.Oram.{Oram}
use Rattle.oram.specs.Orams.{records_of, rows_of}
use Rattle.oram.specs.Runs.{AfterEach, Run, begins, goes_on, Step, history_of}
use Rattle.oram.specs.Worked.{Worked}
use Rattle.oram.proofs.Runs.{latest_works, runs_are_worked}
use Rattle.oram.proofs.Works.{same_depths}
use Rattle.runs.specs.Pairs.{Began, Pairwise, Region, Shaped, counted_by, logs_of}
use Rattle.runs.specs.Secrecy.{LogsArePrescribed, Prescribed}

-- equal entry by entry, equal as lists
same_column : (rows rows' : List MapRow) → length rows ≡ length rows'
    → ((r : ℕ) → r < length rows → (row_at rows r).log ≡ (row_at rows' r).log) → map (λ row. row.log) rows ≡ map (λ row. row.log) rows'
same_column [] [] e h = refl
same_column [] (row ∷ rows) e h = absurd (let n : ⊥ = omega arith in n)
same_column (row ∷ rows) [] e h = absurd (let n : ⊥ = omega arith in n)
same_column (row ∷ rows) (row' ∷ rows') e h =
    ap (λ l. l ∷ map (λ x. x.log) rows) (h 0 (omega arith))
    ∙ ap (λ ls. row'.log ∷ ls) (same_column rows rows' (omega arith) (λ r l. h (suc r) (omega arith)))

depth_at : (rows : List MapRow) (r : ℕ) → r < length rows → (row_at rows r).depth ≡ get_or (map (λ row. row.depth) rows) r 0
depth_at rows r l = sym (get_or-map (λ row. row.depth) rows r no_row 0 l)

-- where the same turns are accepted, counting them changes nothing
cons_both : {X : Type 0} {x y : X} {xs ys : List X} → x ∷ xs ≡ y ∷ ys → (x ≡ y) × (xs ≡ ys)
cons_both e = (cc, cc)

pub counted_same : {R : Type 0} (h g : History R) → accepted_in h ≡ accepted_in g → counted_by h g ≡ g
counted_same [] [] e = refl
counted_same [] (u ∷ g) e = absurd (let z : ◌≡◌ {A = ℕ} 0 1 = cc in let n : ⊥ = omega arith in n)
counted_same (t ∷ h) [] e = absurd (let z : ◌≡◌ {A = ℕ} 0 1 = cc in let n : ⊥ = omega arith in n)
counted_same (t ∷ h) (u ∷ g) e =
    let p = cons_both {xs = accepted_in h} {ys = accepted_in g} e in
    ap (λ (b : Bool). record { call = u.call; coins = u.coins; accepted = b } ∷ counted_by h g) p.0
    ∙ ap (λ (k : List (Turn _)). u ∷ k) (counted_same h g p.1)

module _ {K S P F : Type 0} (kind : KindMeaning K) (store : StoreMeaning S) (maps : MapMeaning P F)
    (again : (x : K) → kind.made (kind.laid x) ≡ x) where
  -- N and the depths
  pub region_kept : (N : ℕ) (Ds : List ℕ) (ss : List (Step K)) (o : Oram K S P) (os : List (Oram K S P)) → Run kind store maps ss (o ∷ os)
      → Began (Region store maps N Ds) (o ∷ os) → Region store maps N Ds o
  region_kept N Ds ss o os (begins b) r = r
  region_kept N Ds ss o os (goes_on {o = x} {os = xs} d run) r =
      let h = region_kept N Ds _ x xs run r in
      (d.frame.rows.length_stays ∙ h.0, same_depths (rows_of store maps x) (rows_of store maps o) d.frame.rows.rows_stay ∙ h.1)

  -- and the whole shape
  pub shaped_kept : (N : ℕ) (rows : List (ℕ × ℕ × ℕ)) (unfit : Option ℕ) (ss : List (Step K)) (o : Oram K S P) (os : List (Oram K S P))
      → Run kind store maps ss (o ∷ os) → Began (Shaped store maps N rows unfit) (o ∷ os) → Shaped store maps N rows unfit o
  shaped_kept N rows unfit ss o os (begins b) r = r
  shaped_kept N rows unfit ss o os (goes_on {o = x} {os = xs} d run) r =
      let h = shaped_kept N rows unfit _ x xs run r in
      (d.frame.rows.length_stays ∙ h.0, d.frame.rows.rows_stay ∙ h.1, d.frame.rows.unfit_stays ∙ h.2)

  -- every accepted turn is one that can be accepted
  latest_can : (N : ℕ) (Ds : List ℕ) (ss : List (Step K)) (o : Oram K S P) (os : List (Oram K S P)) → Run kind store maps ss (o ∷ os)
      → Began (Region store maps N Ds) (o ∷ os) → AllCan N Ds (history_of ss)
  latest_can N Ds ss o os run b =
      let r = region_kept N Ds ss o os run b in
      let Q : ℕ → Type 0 = λ n. AllCan n Ds (history_of ss) in
      let T : List ℕ → Type 0 = λ ds. AllCan (records_of maps o) ds (history_of ss) in
      subst Q r.0 (subst T r.1 (latest_works kind store maps again ss o os run).can)

  pub run_can : (N : ℕ) (Ds : List ℕ) (ss : List (Step K)) (os : List (Oram K S P)) → Run kind store maps ss os
      → Began (Region store maps N Ds) os → AllCan N Ds (history_of ss)
  run_can N Ds ss [] run b = absurd b
  run_can N Ds ss (o ∷ os) run b = latest_can N Ds ss o os run b

  -- prescribed
  pub logs_are_prescribed : LogsArePrescribed kind store maps
  logs_are_prescribed steps os run = go steps os (runs_are_worked kind store maps again steps os run)
    where
      go : (ss : List (Step K)) (qs : List (Oram K S P)) → AfterEach kind store maps (Worked kind store maps) ss qs
          → AfterEach kind store maps (Prescribed kind store maps) ss qs
      go ss [] w = tt
      go [] (q ∷ qs) w = w.logs
      go (s ∷ ss) (q ∷ qs) w = (w.0.logs, go ss qs w.1)

  -- equal prescribed logs are equal logs
  same_logs : (N : ℕ) (Ds : List ℕ) (h g : History K) (o p : Oram K S P) → Worked kind store maps h o → Worked kind store maps g p
      → Region store maps N Ds o → Region store maps N Ds p → ((r D : ℕ) → r < length Ds → prescribed_log D r h ≡ prescribed_log D r g)
      → logs_of store maps o ≡ logs_of store maps p
  same_logs N Ds h g o p w v a b e =
      let m = length-map (rows_of store maps o) (λ row. row.depth) in
      let n = length-map (rows_of store maps p) (λ row. row.depth) in
      let ea = ap length a.1 in
      let eb = ap length b.1 in
      same_column (rows_of store maps o) (rows_of store maps p) (omega arith)
      (λ r l.
      let l' : r < length (rows_of store maps p) = omega arith in
      let D = depth_at (rows_of store maps o) r l ∙ (ap (λ ds. get_or ds r 0) (a.1 ∙ sym b.1) ∙ sym (depth_at (rows_of store maps p) r l')) in
      w.logs r l
      ∙ (e r (row_at (rows_of store maps o) r).depth (omega arith) ∙ (ap (λ d. prescribed_log d r g) D ∙ sym (v.logs r l'))))

  pub all_same_logs : (N : ℕ) (Ds : List ℕ) (ss ts : List (Step K)) (os ps : List (Oram K S P)) → Run kind store maps ss os → Run kind store maps ts ps
      → Began (Region store maps N Ds) os → Began (Region store maps N Ds) ps → accepted_in (history_of ss) ≡ accepted_in (history_of ts)
      → ((j r D : ℕ) → r < length Ds → prescribed_log D r (drop j (history_of ss)) ≡ prescribed_log D r (drop j (history_of ts)))
      → Pairwise (λ o p. logs_of store maps o ≡ logs_of store maps p) os ps
  all_same_logs N Ds ss ts os ps (begins {o = o} x) (begins {o = p} y) b c e h =
      (same_logs N Ds [] [] o p (latest_works kind store maps again [] o [] (begins x)) (latest_works kind store maps again [] p [] (begins y)) b c (λ r D l. refl), tt)
  all_same_logs N Ds ss ts os ps (begins x) (goes_on d q) b c e h = absurd (let z : ◌≡◌ {A = ℕ} 0 1 = cc in let n : ⊥ = omega arith in n)
  all_same_logs N Ds ss ts os ps (goes_on d q) (begins y) b c e h = absurd (let z : ◌≡◌ {A = ℕ} 0 1 = cc in let n : ⊥ = omega arith in n)
  all_same_logs N Ds ss ts os ps (goes_on {s = s} {steps = ss'} {o = x} {o' = o} {os = xs} d q) (goes_on {s = t} {steps = ts'} {o = y} {o' = p} {os = ys} f u) b c e h = (
    same_logs N Ds (history_of (s ∷ ss')) (history_of (t ∷ ts')) o p (latest_works kind store maps again (s ∷ ss') o (x ∷ xs) (goes_on d q))
        (latest_works kind store maps again (t ∷ ts') p (y ∷ ys) (goes_on f u)) (region_kept N Ds (s ∷ ss') o (x ∷ xs) (goes_on d q) b)
        (region_kept N Ds (t ∷ ts') p (y ∷ ys) (goes_on f u) c) (h 0),
    all_same_logs N Ds ss' ts' (x ∷ xs) (y ∷ ys) q u b c (cons_both {xs = accepted_in (history_of ss')} {ys = accepted_in (history_of ts')} e).1 (λ j. h (suc j)),
  )
