-- Two matched runs: the first turn that one accepts and the other refuses is refused by 8.
use Rattle.std.proofs.Common.{◌≡◌, ℕ, zero, suc, ◌<◌, true, false, List, [], ◌∷◌, map, length, drop, IfSome, Some, None, Option, sym, refl, ap, ◌∙◌, subst, arith}
use Rattle.std.proofs.lemmas.List.{length-map}
use Rattle.std.specs.List.{AllByRecursion}
use Rattle.tree.specs.Blocks.{capacity}
use Rattle.record.specs.declared.kind.RecordKind.{Ghosts as KindMeaning}
use Rattle.store.specs.declared.interface.BucketStore.{Ghosts as StoreMeaning}
use Rattle.posmap.specs.declared.interface.PositionMap.{Ghosts as MapMeaning}
use Rattle.posmap.specs.Maps.{Card, MapRow, fixed_of, row_at}
use Rattle.history.specs.Histories.{Call, opening, getting, putting, draining, tearing, History, InTime, RightCoins, Sort, opens, asks, drains, tears, accepted_in, calls_of, deeds, moves_since, named, sort}
use Rattle.history.specs.Secrecy as history
use Rattle.history.specs.Secrecy.{Alike}
use Rattle.history.proofs.Logs.{counted}
use Rattle.oram.specs.declared.oram.Oram.{Oram}
use Rattle.oram.specs.Calls.{Does, Outcome, refused, did, is_done, refusal_in, refusal_of}
use Rattle.oram.specs.Orams.{depths_of, full_of, records_of, rows_of}
use Rattle.oram.specs.Runs.{Run, begins, goes_on, Step, history_of}
use Rattle.oram.specs.Worked.{Small, Worked, moves_by, turn_of}
use Rattle.oram.proofs.Accepts.{never_eight, small_room}
use Rattle.oram.proofs.Runs.{latest_works}
use Rattle.oram.proofs.Works.{depths_fixed}
use Rattle.runs.specs.Pairs.{Began, ByEight, NamesBelow, Region, Shaped, SmallRows, counted_by}
use Rattle.runs.specs.Secrecy.{DifferByEightOnly, Matched, SmallNeverDiffers}
use Rattle.runs.proofs.Along.{run_can, shaped_kept}
use Rattle.runs.proofs.Equal.{equal}
use Rattle.runs.proofs.Ready.{Ready, accepted_ready, ready_eight}
use Rattle.runs.proofs.Turns.{accepted_right, drop-map, drop_more, opened_alike, refused_same}

-- what is fixed of each row
fixed_at : (rows rows' : List MapRow) → fixed_of rows' ≡ fixed_of rows → (r : ℕ)
    → ((row_at rows' r).depth ≡ (row_at rows r).depth) × ((row_at rows' r).span ≡ (row_at rows r).span)
fixed_at [] [] e r = (refl, refl)
fixed_at [] (row ∷ rows') e r = absurd (let z : ◌≡◌ {A = ℕ} 0 1 = cc in let n : ⊥ = omega arith in n)
fixed_at (row ∷ rows) [] e r = absurd (let z : ◌≡◌ {A = ℕ} 0 1 = cc in let n : ⊥ = omega arith in n)
fixed_at (row ∷ rows) (row' ∷ rows') e zero =
    let p : ◌≡◌ {A = ℕ × ℕ × ℕ} (row'.depth, length row'.own, row'.span) (row.depth, length row.own, row.span) = cc in
    (ap (λ f. f.0) p, ap (λ f. f.2) p)
fixed_at (row ∷ rows) (row' ∷ rows') e (suc r) = fixed_at rows rows' (let q : fixed_of rows' ≡ fixed_of rows = cc in q) r

fixed_long : (rows rows' : List MapRow) → fixed_of rows' ≡ fixed_of rows → length rows' ≡ length rows
fixed_long rows rows' e = sym (long rows') ∙ (ap length e ∙ long rows)
  where
    long : (xs : List MapRow) → length (fixed_of xs) ≡ length xs
    long [] = refl
    long (x ∷ xs) = ap suc (long xs)

-- in time for one, in time for the other
time_moves : (N : ℕ) (s : Sort) (n m k l : ℕ) → k ≡ l → (s ≡ asks → m < N) → InTime N s n k → InTime N s m l
time_moves N opens n m k l e f t = subst (λ x. x < N) e t
time_moves N asks n m k l e f t = (sym e ∙ t.0, f refl)
time_moves N drains n m k l e f t = tt
time_moves N tears n m k l e f t = tt

names_asked : {R : Type 0} (N : ℕ) (c : Call R) → NamesBelow N c → sort c ≡ asks → named c < N
names_asked N opening b e = absurd (let z : ◌≡◌ {A = ℕ} 0 1 = cc in let n : ⊥ = omega arith in n)
names_asked N (getting n) b e = b
names_asked N (putting n x) b e = b
names_asked N draining b e = absurd (let z : ◌≡◌ {A = ℕ} 0 1 = cc in let n : ⊥ = omega arith in n)
names_asked N tearing b e = absurd (let z : ◌≡◌ {A = ℕ} 0 1 = cc in let n : ⊥ = omega arith in n)

all_at : {A : Type 0} (Q : A → Type 0) (xs : List A) → AllByRecursion Q xs → (j : ℕ) (x : A) (ys : List A) → drop j xs ≡ x ∷ ys → Q x
all_at Q [] h zero x ys e = absurd (let z : ◌≡◌ {A = ℕ} 0 1 = cc in let n : ⊥ = omega arith in n)
all_at Q [] h (suc j) x ys e = absurd (let z : ◌≡◌ {A = ℕ} 0 1 = cc in let n : ⊥ = omega arith in n)
all_at Q (a ∷ xs) h zero x ys e = let p : a ≡ x = cc in subst Q p h.0
all_at Q (a ∷ xs) h (suc j) x ys e = all_at Q xs h.1 j x ys e

began_as : {A : Type 0} (Q T : A → Type 0) → ((x : A) → Q x → T x) → (xs : List A) → Began Q xs → Began T xs
began_as Q T f [] b = absurd b
began_as Q T f (x ∷ []) b = f x b
began_as Q T f (x ∷ (y ∷ xs)) b = began_as Q T f (y ∷ xs) b

-- the second history with the first one's accepted turns
alike_long : {R : Type 0} (h g : History R) → Alike (calls_of h) (calls_of g) → length h ≡ length g
alike_long [] [] e = refl
alike_long [] (u ∷ g) e = absurd (let z : ◌≡◌ {A = ℕ} 0 1 = cc in let n : ⊥ = omega arith in n)
alike_long (t ∷ h) [] e = absurd (let z : ◌≡◌ {A = ℕ} 0 1 = cc in let n : ⊥ = omega arith in n)
alike_long (t ∷ h) (u ∷ g) e = ap suc (alike_long h g (let a : Alike (calls_of h) (calls_of g) = cc in a))

counted_calls : {R : Type 0} (h g : History R) → length h ≡ length g → calls_of (counted_by h g) ≡ calls_of g
counted_calls [] [] e = refl
counted_calls [] (u ∷ g) e = absurd (let n : ⊥ = omega arith in n)
counted_calls (t ∷ h) [] e = absurd (let n : ⊥ = omega arith in n)
counted_calls (t ∷ h) (u ∷ g) e = ap (λ cs. u.call ∷ cs) (counted_calls h g (omega arith))

counted_turns : {R : Type 0} (h g : History R) → length h ≡ length g → accepted_in h ≡ accepted_in (counted_by h g)
counted_turns [] [] e = refl
counted_turns [] (u ∷ g) e = absurd (let n : ⊥ = omega arith in n)
counted_turns (t ∷ h) [] e = absurd (let n : ⊥ = omega arith in n)
counted_turns (t ∷ h) (u ∷ g) e = ap (λ bs. t.accepted ∷ bs) (counted_turns h g (omega arith))

small_of : (rows : List MapRow) (fixed : List (ℕ × ℕ × ℕ)) → fixed_of rows ≡ fixed → SmallRows fixed → Small rows
small_of [] fixed e h = tt
small_of (row ∷ rows) [] e h = absurd (let z : ◌≡◌ {A = ℕ} 0 1 = cc in let n : ⊥ = omega arith in n)
small_of (row ∷ rows) (f ∷ fixed) e h =
    let p : ◌≡◌ {A = ℕ × ℕ × ℕ} (row.depth, length row.own, row.span) f = cc in
    let q : fixed_of rows ≡ fixed = cc in
    (subst (λ x. x.1 < capacity) (sym p) h.0, small_of rows fixed q h.1)

cons_head : {X : Type 0} {x y : X} {xs ys : List X} → x ∷ xs ≡ y ∷ ys → x ≡ y
cons_head e = cc

cons_tail : {X : Type 0} {x y : X} {xs ys : List X} → x ∷ xs ≡ y ∷ ys → xs ≡ ys
cons_tail e = cc

module _ {K S P F : Type 0} (kind : KindMeaning K) (store : StoreMeaning S) (maps : MapMeaning P F)
    (again : (x : K) → kind.made (kind.laid x) ≡ x) where
  -- the turn s of a run, and the run before it
  pub record At (Q : Oram K S P → Type 0) (s : Step K) (before : List (Step K)) : Type 0 where
    pub o : Oram K S P
    pub o' : Oram K S P
    pub os : List (Oram K S P)
    pub does : Does kind store maps s.coins o o' s.call s.outcome
    pub run : Run kind store maps before (o ∷ os)
    pub began : Began Q (o ∷ os)

  run_at : (Q : Oram K S P → Type 0) (ss : List (Step K)) (os : List (Oram K S P)) → Run kind store maps ss os → Began Q os
      → (j : ℕ) (s : Step K) (before : List (Step K)) → drop j ss ≡ s ∷ before → At Q s before
  run_at Q ss os (begins x) b zero s before e = absurd (let z : ◌≡◌ {A = ℕ} 0 1 = cc in let n : ⊥ = omega arith in n)
  run_at Q ss os (begins x) b (suc j) s before e = absurd (let z : ◌≡◌ {A = ℕ} 0 1 = cc in let n : ⊥ = omega arith in n)
  run_at Q ss os (goes_on {s = t} {steps = ts} {o = o} {o' = o'} {os = qs} d r) b zero s before e =
      let p : t ≡ s = cc in
      let q : ts ≡ before = cc in
      subst (λ x. At Q x before) p (subst (At Q t) q (record { o = o; o' = o'; os = qs; does = d; run = r; began = b }))
  run_at Q ss os (goes_on {steps = ts} {o = o} {os = qs} d r) b (suc j) s before e = run_at Q ts (o ∷ qs) r b j s before e

  -- what is ready in one run is ready in the other
  ready_moves : (N : ℕ) (rows : List (ℕ × ℕ × ℕ)) (unfit : Option ℕ) (h g : History K) (o p : Oram K S P) → Worked kind store maps h o
      → Worked kind store maps g p → Shaped store maps N rows unfit o → Shaped store maps N rows unfit p → Alike (calls_of h) (calls_of g)
      → accepted_in h ≡ accepted_in g → (s : Sort) (n m : ℕ) (c d : List ℕ) → (s ≡ asks → m < N) → RightCoins s (depths_of store maps p) d
      → Ready store maps s n c o → Ready store maps s m d p
  ready_moves N rows unfit h g o p w v a b alike acc s n m c d below right ready =
      let fixed = b.1 ∙ sym a.1 in
      record {
        fit = b.2 ∙ (sym a.2 ∙ ready.fit);
        in_time =
            subst (λ k. InTime k s m p.opened) (a.0 ∙ sym b.0)
            (time_moves (records_of maps o) s n m o.opened p.opened (w.opened ∙ (opened_alike h g alike acc ∙ sym v.opened))
            (λ e. let l = below e in rw a.0 l) ready.in_time);
        right = right;
        free = λ r l.
            let same = fixed_at (rows_of store maps o) (rows_of store maps p) fixed r in
            let long = fixed_long (rows_of store maps o) (rows_of store maps p) fixed in
            let l' : r < length (rows_of store maps o) = omega arith in
            let D = (row_at (rows_of store maps o) r).depth in
            let used = ap length (w.logs r l') ∙ (counted K).entries D r h in
            let used' = ap length (v.logs r l) ∙ ((counted K).entries (row_at (rows_of store maps p) r).depth r g ∙ ap (λ x. moves_since x (deeds g)) same.0) in
            let moves = (counted K).alike D h g alike acc in
            let f = ready.free r l' in
            let more = ap (moves_by s) same.0 in
            let span = same.1 in
            omega arith;
      }

  -- one accepts and the other refuses: the refusal is 8
  other_eight : (call : Call K) (coins : List ℕ) (p : Oram K S P) (c : Card) → Some c ≡ refusal_of store maps p call coins
      → Ready store maps (sort call) (named call) coins p → c.number ≡ 8
  other_eight call coins p c e ready = subst (λ r. IfSome r (λ x. x.number ≡ 8)) (sym e) (ready_eight store maps p coins call ready)

  never_torn : (call : Call K) (coins : List ℕ) (p : Oram K S P) (c : Card) → Some c ≡ refusal_of store maps p call coins → sort call ≡ tears → ⊥
  never_torn opening coins p c e s = let z : ◌≡◌ {A = ℕ} 0 1 = cc in omega arith
  never_torn (getting n) coins p c e s = let z : ◌≡◌ {A = ℕ} 0 1 = cc in omega arith
  never_torn (putting n x) coins p c e s = let z : ◌≡◌ {A = ℕ} 0 1 = cc in omega arith
  never_torn draining coins p c e s = let z : ◌≡◌ {A = ℕ} 0 1 = cc in omega arith
  never_torn tearing coins p c e s = let z : ◌≡◌ {A = ℕ} 0 1 = cc in omega arith

  module _ (N : ℕ) (rows : List (ℕ × ℕ × ℕ)) (unfit : Option ℕ) (ss ts : List (Step K)) (os ps : List (Oram K S P))
      (m : Matched kind store maps N rows unfit ss ts os ps) where
    abbrev Ds : List ℕ
    Ds = map (λ f. f.0) rows

    abbrev h : History K
    h = history_of ss

    abbrev g : History K
    g = history_of ts

    shaped_region : (o : Oram K S P) → Shaped store maps N rows unfit o → Region store maps N Ds o
    shaped_region o s = (s.0, depths_fixed (rows_of store maps o) ∙ ap (map (λ f. f.0)) s.1)

    pub first_region : Began (Region store maps N Ds) os
    first_region = began_as (Shaped store maps N rows unfit) (Region store maps N Ds) shaped_region os m.first_began

    pub second_region : Began (Region store maps N Ds) ps
    second_region = began_as (Shaped store maps N rows unfit) (Region store maps N Ds) shaped_region ps m.second_began

    side : history.SideBySide K N Ds h (counted_by h g)
    side =
        let long = alike_long h g m.alike in
        record {
          alike = m.alike ∙ ap (map sort) (sym (counted_calls h g long));
          turns = counted_turns h g long;
          first_can = run_can kind store maps again N Ds ss os m.first first_region;
        }

    module _ (j : ℕ) (s t : Step K) (before before' : List (Step K)) (es : drop j ss ≡ s ∷ before) (et : drop j ts ≡ t ∷ before')
        (acc : accepted_in (history_of before) ≡ accepted_in (history_of before')) where
      a : At (Shaped store maps N rows unfit) s before
      a = run_at (Shaped store maps N rows unfit) ss os m.first m.first_began j s before es

      b : At (Shaped store maps N rows unfit) t before'
      b = run_at (Shaped store maps N rows unfit) ts ps m.second m.second_began j t before' et

      eh : drop j h ≡ turn_of s.call s.coins s.outcome ∷ history_of before
      eh = drop-map (λ x. turn_of x.call x.coins x.outcome) j ss ∙ ap history_of es

      eg : drop j g ≡ turn_of t.call t.coins t.outcome ∷ history_of before'
      eg = drop-map (λ x. turn_of x.call x.coins x.outcome) j ts ∙ ap history_of et

      sorts : map sort (calls_of (turn_of s.call s.coins s.outcome ∷ history_of before)) ≡ map sort (calls_of (turn_of t.call t.coins t.outcome ∷ history_of before'))
      sorts =
          ap (λ x. map sort (calls_of x)) (sym eh)
          ∙ (ap (map sort) (sym (drop-map (λ x. x.call) j h))
          ∙ (sym (drop-map sort j (calls_of h))
          ∙ (ap (drop j) m.alike
          ∙ (drop-map sort j (calls_of g) ∙ (ap (map sort) (drop-map (λ x. x.call) j g) ∙ ap (λ x. map sort (calls_of x)) eg)))))

      sort_is_same : sort s.call ≡ sort t.call
      sort_is_same = cons_head sorts

      alike_before : Alike (calls_of (history_of before)) (calls_of (history_of before'))
      alike_before = cons_tail sorts

      shaped : Shaped store maps N rows unfit a.o
      shaped = shaped_kept kind store maps again N rows unfit before a.o a.os a.run a.began

      shaped' : Shaped store maps N rows unfit b.o
      shaped' = shaped_kept kind store maps again N rows unfit before' b.o b.os b.run b.began

      worked : Worked kind store maps (history_of before) a.o
      worked = latest_works kind store maps again before a.o a.os a.run

      worked' : Worked kind store maps (history_of before') b.o
      worked' = latest_works kind store maps again before' b.o b.os b.run

      second_asks : sort t.call ≡ asks → named t.call < N
      second_asks =
          names_asked N t.call
          (all_at (NamesBelow N) (calls_of g) m.second_names j t.call (calls_of (history_of before')) (drop-map (λ x. x.call) j g ∙ ap calls_of eg))

      first_asks : sort s.call ≡ asks → named s.call < N
      first_asks =
          names_asked N s.call
          (all_at (NamesBelow N) (calls_of h) m.first_names j s.call (calls_of (history_of before)) (drop-map (λ x. x.call) j h ∙ ap calls_of eh))

      -- the first accepts, the second refuses
      second_eight : (c : Card) → is_done s.outcome ≡ true → None ≡ refusal_of store maps a.o s.call s.coins
          → Some c ≡ refusal_of store maps b.o t.call t.coins → c.number ≡ 8
      second_eight c acc-s e f =
          let not-torn : sort s.call ≡ tears → ⊥ = λ x. never_torn t.call t.coins b.o c f (sym sort_is_same ∙ x) in
          let ready = accepted_ready store maps a.o s.coins s.call not-torn e in
          let right = accepted_right N Ds h g side m.relabelled j _ _ (history_of before) (history_of before') eh eg acc-s in
          let T : Sort → Type 0 = λ x. Ready store maps x (named t.call) t.coins b.o in
          other_eight t.call t.coins b.o c f
          (subst T sort_is_same
          (ready_moves N rows unfit (history_of before) (history_of before') a.o b.o worked worked' shaped shaped' alike_before acc (sort s.call)
          (named s.call) (named t.call) s.coins t.coins (λ x. second_asks (sym sort_is_same ∙ x))
          (subst (λ ds. RightCoins (sort s.call) ds t.coins) (sym (shaped_region b.o shaped').1) right) ready))

      -- the second accepts, the first refuses
      first_eight : (c : Card) → is_done s.outcome ≡ false → None ≡ refusal_of store maps b.o t.call t.coins
          → Some c ≡ refusal_of store maps a.o s.call s.coins → c.number ≡ 8
      first_eight c ref-s e f =
          let not-torn : sort t.call ≡ tears → ⊥ = λ x. never_torn s.call s.coins a.o c f (sort_is_same ∙ x) in
          let ready = accepted_ready store maps b.o t.coins t.call not-torn e in
          let coins = refused_same N Ds h g side m.relabelled j _ _ (history_of before) (history_of before') eh eg ref-s in
          let right : RightCoins (sort t.call) (depths_of store maps a.o) s.coins =
          subst (λ ds. RightCoins (sort t.call) ds s.coins) ((shaped_region b.o shaped').1 ∙ sym (shaped_region a.o shaped).1)
          (subst (RightCoins (sort t.call) (depths_of store maps b.o)) coins ready.right) in
          let T : Sort → Type 0 = λ x. Ready store maps x (named s.call) s.coins a.o in
          other_eight s.call s.coins a.o c f
          (subst T (sym sort_is_same)
          (ready_moves N rows unfit (history_of before') (history_of before) b.o a.o worked' worked shaped' shaped (sym alike_before) (sym acc) (sort t.call)
          (named t.call) (named s.call) t.coins s.coins (λ x. first_asks (sort_is_same ∙ x)) right ready))

      pub differ_at : (is_done s.outcome ≡ is_done t.outcome → ⊥) → ByEight s.outcome × ByEight t.outcome
      differ_at ne = go s.outcome t.outcome refl refl
        where
          go : (x y : Outcome K) → s.outcome ≡ x → t.outcome ≡ y → ByEight x × ByEight y
          go (did x) (did y) e f = absurd (ne (ap is_done e ∙ sym (ap is_done f)))
          go (refused c) (refused d) e f = absurd (ne (ap is_done e ∙ sym (ap is_done f)))
          go (did x) (refused d) e f = (
            tt,
            second_eight d (ap is_done e) (sym (ap refusal_in e) ∙ a.does.refusal) (sym (ap refusal_in f) ∙ b.does.refusal),
          )
          go (refused c) (did y) e f = (
            first_eight c (ap is_done e) (sym (ap refusal_in f) ∙ b.does.refusal) (sym (ap refusal_in e) ∙ a.does.refusal),
            tt,
          )

      -- in small rows 8 does not occur, so neither does a difference
      small_agree : SmallRows rows → is_done s.outcome ≡ is_done t.outcome
      small_agree small = go s.outcome t.outcome refl refl
        where
          room : (o : Oram K S P) (k : History K) → Worked kind store maps k o → Shaped store maps N rows unfit o → full_of maps o ≡ None
          room o k w x = small_room store maps s.coins o w.ordered (small_of (rows_of store maps o) rows x.1 small)

          go : (x y : Outcome K) → s.outcome ≡ x → t.outcome ≡ y → is_done s.outcome ≡ is_done t.outcome
          go (did x) (did y) e f = ap is_done e ∙ sym (ap is_done f)
          go (refused c) (refused d) e f = ap is_done e ∙ sym (ap is_done f)
          go (did x) (refused d) e f =
              let q = sym (ap refusal_in f) ∙ b.does.refusal in
              absurd (never_eight store maps t.coins b.o t.call (room b.o (history_of before') worked' shaped') d (sym q)
              (second_eight d (ap is_done e) (sym (ap refusal_in e) ∙ a.does.refusal) q))
          go (refused c) (did y) e f =
              let q = sym (ap refusal_in e) ∙ a.does.refusal in
              absurd (never_eight store maps s.coins a.o s.call (room a.o (history_of before) worked shaped) c (sym q)
              (first_eight c (ap is_done e) (sym (ap refusal_in f) ∙ b.does.refusal) q))

    -- from turn j on, down to the first
    agree : SmallRows rows → (xs ys : List (Step K)) (j : ℕ) → drop j ss ≡ xs → drop j ts ≡ ys → length xs ≡ length ys
        → accepted_in (history_of xs) ≡ accepted_in (history_of ys)
    agree small [] [] j e f l = refl
    agree small [] (y ∷ ys) j e f l = absurd (let n : ⊥ = omega arith in n)
    agree small (x ∷ xs) [] j e f l = absurd (let n : ⊥ = omega arith in n)
    agree small (x ∷ xs) (y ∷ ys) j e f l =
        let more = agree small xs ys (suc j) (drop_more j ss x xs e) (drop_more j ts y ys f) (omega arith) in
        ap (λ b. b ∷ accepted_in (history_of xs)) (small_agree j x y xs ys e f more small) ∙ ap (λ bs. is_done y.outcome ∷ bs) more

    steps_long : length ss ≡ length ts
    steps_long =
        sym (length-map ss (λ x. turn_of x.call x.coins x.outcome))
        ∙ (alike_long h g m.alike ∙ length-map ts (λ x. turn_of x.call x.coins x.outcome))

    pub all_agree : SmallRows rows → accepted_in h ≡ accepted_in g
    all_agree small = agree small ss ts 0 refl refl steps_long

  pub differ_by_eight : DifferByEightOnly kind store maps
  differ_by_eight N rows unfit ss ts os ps m j s t before before' es et acc ne = differ_at N rows unfit ss ts os ps m j s t before before' es et acc ne

  pub small_never_differs : SmallNeverDiffers kind store maps
  small_never_differs N rows unfit ss ts os ps m small =
      let e = all_agree N rows unfit ss ts os ps m small in (
        e,
        equal kind store maps again N (map (λ f. f.0) rows) ss ts os ps
            (record {
              first = m.first;
              second = m.second;
              first_began = first_region N rows unfit ss ts os ps m;
              second_began = second_region N rows unfit ss ts os ps m;
              alike = m.alike;
              relabelled = m.relabelled;
            }) e,
      )
