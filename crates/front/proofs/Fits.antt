-- What a fit row in front of a map has, and how its refusals follow one another.
use Rattle.std.proofs.Common.{◌≡◌, ℕ, suc, ◌*◌, ◌<◌, ◌≤◌, min, Bool, true, false, cond, ◌&&◌, eqb, ltb, leb, List, length, get_or, drop, Some, None, Option, sym, refl, ap, ◌∙◌, arith}
use Rattle.std.proofs.lemmas.Bool.{and_parts, cond-true, eqb-true, le-leb, le-ltb, leb-true, lt-leb, lt-ltb, ltb-true}
use Rattle.store.specs.declared.interface.BucketStore.{Ghosts as StoreMeaning}
use Rattle.tree.specs.declared.block.Block.{Block}
use Rattle.tree.specs.Entries.{drain_moves, request_moves}
use Rattle.tree.specs.Paths.{is_depth}
use Rattle.row.specs.Trials.{is_fit, tree_buckets}
use Rattle.posmap.specs.declared.interface.PositionMap.{Ghosts as MapMeaning}
use Rattle.posmap.specs.Maps.{Card, MapRow, drain_refusal, leaf_refusal, log_refusal, naming, or_else, swap_refusal, unless, widest_leaf}
use Rattle.front.specs.Fronts.{below_first, drain_from, first_card, fit_up_to, front_full, most_rows, own, raised, request_from, rows_with, unfit_with}
use Rattle.front.proofs.Kept.{none_unfit}
use Rattle.front.proofs.Refusals.{drain_refusal_lem, request_refusal_lem}

pub record Fits (most D count n rows : ℕ) : Type 0 where
  pub fit : is_fit D count ≡ true
  pub depth : is_depth D ≡ true
  pub shallow : D ≤ 12
  pub few : n ≤ most
  pub shallow_below : rows < most_rows

pub fits : (most D count n rows : ℕ) → fit_up_to most D count n rows ≡ true → Fits most D count n rows
fits most D count n rows e =
    let a = and_parts (is_fit D count) (leb 1 n && (leb n most && ltb rows most_rows)) e in
    let b = and_parts (leb 1 n) (leb n most && ltb rows most_rows) a.1 in
    let d = and_parts (leb n most) (ltb rows most_rows) b.1 in
    let f = and_parts (is_depth D) (leb (tree_buckets D) count) a.0 in
    let g = and_parts (leb 1 D) (leb D 12) f.0 in
    record { fit = a.0; depth = f.0; shallow = leb-true D 12 g.1; few = leb-true n most d.0; shallow_below = ltb-true rows most_rows d.1 }

-- what is refused is not accepted
pub no_card : {c : Card} → None ≡ Some c → ⊥
no_card e = let z : ◌≡◌ {A = ℕ} 0 1 = cc in omega arith

-- the test of the count of coins that the code makes, where rows are counted up to 255
five : (b : Bool) (k : Card) (o : Option Card) → Some k ≡ unless b (own 5) → Some k ≡ or_else (unless b (own 5)) o
five true k o e = absurd (no_card (sym e))
five false k o e = e

not_five : (b : Bool) (o : Option Card) → None ≡ unless b (own 5) → (b ≡ true) × (o ≡ or_else (unless b (own 5)) o)
not_five true o e = (refl, refl)
not_five false o e = absurd (no_card e)

-- no refusal of two: neither refuses
pub or-none : (a b : Option Card) → None ≡ or_else a b → (None ≡ a) × (None ≡ b)
or-none None b e = (refl, e)
or-none (Some c) b e = absurd (no_card e)

pub unless-none : (b : Bool) (c : Card) → None ≡ unless b c → b ≡ true
unless-none true c e = refl
unless-none false c e = absurd (no_card e)

pub none_named : (n : ℕ) (o : Option ℕ) → None ≡ naming n o → o ≡ None
none_named n None e = refl
none_named n (Some r) e = absurd (no_card e)

first-none : (mine lower : Option Card) → None ≡ first_card mine lower → (None ≡ mine) × (None ≡ lower)
first-none None None e = (refl, refl)
first-none (Some c) None e = absurd (no_card e)
first-none None (Some c) e = absurd (no_card e)
first-none (Some c) (Some d) e = absurd (go (below_first c d) e)
  where
    go : (b : Bool) → None ≡ cond b (Some (raised d)) (Some c) → ⊥
    go true h = no_card h
    go false h = no_card h

-- an unfit row is what refuses
pub unfit_refuses : (u rest : Option Card) (k : Card) → Some k ≡ u → Some k ≡ or_else u rest
unfit_refuses (Some x) rest k e = e
unfit_refuses None rest k e = absurd (no_card (sym e))

module _ {S P F : Type 0} (store : StoreMeaning S) (map : MapMeaning P F) (most : ℕ) (s : S) (b : P) (D : ℕ) (coins : List ℕ)
    (whole_fit : unfit_with store map most s b D ≡ None) where
  abbrev all : List MapRow
  all = rows_with store map s b D

  abbrev u : Option ℕ
  u = unfit_with store map most s b D

  abbrev counted : ℕ → Bool
  counted share = eqb (length coins) (share * suc (min 255 (length (map.rows b))))

  abbrev itself : Bool
  itself = fit_up_to most D (length (store.buckets s)) (length (map.leaves b)) (length (map.rows b))

  parts : (map.unfit b ≡ None) × (itself ≡ true)
  parts = none_unfit itself (map.unfit b) whole_fit

  pub it_fits : Fits most D (length (store.buckets s)) (length (map.leaves b)) (length (map.rows b))
  it_fits = fits most D (length (store.buckets s)) (length (map.leaves b)) (length (map.rows b)) parts.1

  below_255 : min 255 (length (map.rows b)) ≡ length (map.rows b)
  below_255 = let l = it_fits.shallow_below in omega arith

  -- a request for number i of all, with a new leaf; the map is asked for number n
  module _ (queue : List Block) (leaves : List ℕ) (i new : ℕ) where
    abbrev asked : Option Card
    asked = swap_refusal leaves all u (front_full queue (map.full b)) i new coins

    abbrev rest : Option Card
    rest =
        or_else (leaf_refusal 3 0 all coins)
        (or_else (log_refusal request_moves 0 all) (naming 8 (front_full queue (map.full b))))

    abbrev narrow : Option Card
    narrow = unless (leb new widest_leaf) (own 6)

    -- there is no such number
    pub request_two : length leaves ≤ i → Some (own 2) ≡ asked
    request_two h = rw (whole_fit, le-ltb i (length leaves) h) refl

    module _ (there : i < length leaves) where
      request_whole : asked ≡ or_else (unless (counted 3) (own 5)) (or_else narrow rest)
      request_whole = rw (whole_fit, lt-ltb i (length leaves) there, below_255) refl

      pub request_five : (k : Card) → Some k ≡ unless (counted 3) (own 5) → Some k ≡ asked
      request_five k e = five (counted 3) k (or_else narrow rest) e ∙ sym request_whole

      -- the new leaf is too wide
      pub request_six : None ≡ unless (counted 3) (own 5) → widest_leaf < new → Some (own 6) ≡ asked
      request_six e wide =
          sym (ap (λ c. or_else (unless c (own 6)) rest) (lt-leb new widest_leaf wide))
          ∙ ((not_five (counted 3) (or_else narrow rest) e).1 ∙ sym request_whole)

      pub request_rest : (n : ℕ) → n < length (map.leaves b) → new ≤ widest_leaf → None ≡ unless (counted 3) (own 5)
          → request_from (map.leaves b) (map.rows b) (map.unfit b) (map.full b) n D (store.span s) (store.log s) (length queue) coins ≡ asked
      request_rest n number slim e =
          let c = not_five (counted 3) (or_else narrow rest) e in
          let long : length coins ≡ 3 * suc (length (map.rows b)) = eqb-true _ _ c.0 ∙ ap (λ k. 3 * suc k) below_255 in
          request_refusal_lem (map.leaves b) (map.rows b) (map.unfit b) (map.full b) n D (store.span s) (store.log s) queue coins it_fits.depth it_fits.shallow parts.0 number long
          ∙ (sym (ap (λ c. or_else (unless c (own 6)) rest) (le-leb new widest_leaf slim)) ∙ (c.1 ∙ sym request_whole))

      -- accepted by all rows: then the map below accepts what it is asked
      pub request_passed : (n : ℕ) → n < length (map.leaves b) → None ≡ asked
          → None ≡ swap_refusal (map.leaves b) (map.rows b) (map.unfit b) (map.full b) n (get_or coins 0 0) (drop 3 coins)
      request_passed n number e =
          let w = or-none (unless (counted 3) (own 5)) (or_else narrow rest) (e ∙ request_whole) in
          let slim = leb-true new widest_leaf (unless-none _ _ (or-none narrow rest w.1).0) in
          let c = not_five (counted 3) (or_else narrow rest) w.0 in
          let long : length coins ≡ 3 * suc (length (map.rows b)) = eqb-true _ _ c.0 ∙ ap (λ k. 3 * suc k) below_255 in
          let many : 3 ≤ length coins = omega arith in
          (first-none _ _ (e ∙ (sym (request_rest n number slim w.0) ∙ cond-true _ _ _ (le-leb 3 (length coins) many)))).1

  -- and a drain
  abbrev drain_rests : Option Card
  drain_rests = or_else (leaf_refusal 1 0 all coins) (log_refusal drain_moves 0 all)

  drain_whole : drain_refusal all u coins ≡ or_else (unless (counted 1) (own 5)) drain_rests
  drain_whole = rw (whole_fit, below_255) refl

  pub drain_five : (k : Card) → Some k ≡ unless (counted 1) (own 5) → Some k ≡ drain_refusal all u coins
  drain_five k e = five (counted 1) k drain_rests e ∙ sym drain_whole

  pub drain_rest : None ≡ unless (counted 1) (own 5)
      → drain_from (map.rows b) (map.unfit b) D (store.span s) (store.log s) coins ≡ drain_refusal all u coins
  drain_rest e =
      let c = not_five (counted 1) drain_rests e in
      let long : length coins ≡ 1 * suc (length (map.rows b)) = eqb-true _ _ c.0 ∙ ap (λ k. 1 * suc k) below_255 in
      drain_refusal_lem (map.leaves b) (map.rows b) (map.unfit b) D (store.span s) (store.log s) coins it_fits.depth parts.0 long
      ∙ (c.1 ∙ sym drain_whole)

  pub drain_passed : None ≡ drain_refusal all u coins → None ≡ drain_refusal (map.rows b) (map.unfit b) (drop 1 coins)
  drain_passed e =
      let w = or-none (unless (counted 1) (own 5)) drain_rests (e ∙ drain_whole) in
      let c = not_five (counted 1) drain_rests w.0 in
      let long : length coins ≡ 1 * suc (length (map.rows b)) = eqb-true _ _ c.0 ∙ ap (λ k. 1 * suc k) below_255 in
      let many : 1 ≤ length coins = omega arith in
      (first-none _ _ (e ∙ (sym (drain_rest w.0) ∙ cond-true _ _ _ (le-leb 1 (length coins) many)))).1
