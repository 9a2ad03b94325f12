-- A fetch takes out exactly the blocks of its number, and answers the first of them.
use Rattle.std.proofs.Common.{◌≡◌, ℕ, zero, suc, ◌+◌, ◌-◌, ◌<◌, ◌≤◌, Bool, true, false, cond, not, ◌&&◌, eqb, ltb, List, [], ◌∷◌, ◌++◌, length, Some, None, Option, sym, refl, ap, ◌∙◌, inl, inr, arith}
use Rattle.std.proofs.lemmas.Bool.{and_parts, cond-true, lt-ltb, not-true, cases_lt}
use Rattle.std.proofs.lemmas.Bool.Decides.{nat_tests}
use Rattle.std.specs.List.{position, position_or_len}
use Rattle.tree.specs.declared.block.Block.{Block}
use Rattle.tree.specs.declared.place.Place.{Place}
use Rattle.tree.specs.Blocks.{numbered, apart, block_of, others}
use Rattle.tree.specs.Paths.{path}
use Rattle.tree.specs.Places.{has_block, block_in, blocks_in, holds, place_of, emptied, block_at, without, taken}
use Rattle.tree.proofs.PathLaws.{path_positive, path_rises}
use Rattle.steps.specs.Steps.{Buckets, bucket, or_else, cleared_to, found_to}
use Rattle.steps.specs.Laws.{path_blocks, FetchTakesExactly}
use Rattle.steps.proofs.Buckets.{all_at, changed_at, bucket_other}
use Rattle.steps.proofs.Lookups.{Lacks, lacks_from, others-first}
use Rattle.steps.proofs.Rest.{cleared_rest}

-- an index behind one more element
abbrev later : Option ℕ → Option ℕ
later None = None
later (Some i) = Some (suc i)

-- the first that passes, by the first element and the others
position-cons : {X : Type 0} (test : X → Bool) (x : X) (xs : List X) → position test (x ∷ xs) ≡ cond (test x) (Some 0) (later (position test xs))
position-cons test x xs = go (test x) (position_or_len test xs) (length xs)
  where
    below : (n m : ℕ) → ltb (1 + n) (suc m) ≡ ltb n m
    below n m = grind (arith, nat_tests)

    behind : (b : Bool) (n : ℕ) → cond b (Some (1 + n)) None ≡ later (cond b (Some n) None)
    behind true n = ap Some (let e : 1 + n ≡ suc n = omega arith in e)
    behind false n = refl

    go : (b : Bool) (n m : ℕ) → cond (ltb (cond (not b) (1 + n) 0) (suc m)) (Some (cond (not b) (1 + n) 0)) None
        ≡ cond b (Some 0) (later (cond (ltb n m) (Some n) None))
    go true n m = cond-true _ (Some 0) None (lt-ltb 0 (suc m) (omega arith))
    go false n m = ap (λ b. cond b (Some (1 + n)) None) (below n m) ∙ behind (ltb n m) n

emptied_later : (p : Place) (ps : List Place) (o : Option ℕ) → emptied (p ∷ ps) (later o) ≡ p ∷ emptied ps o
emptied_later p ps None = refl
emptied_later p ps (Some i) = refl

block_at_later : (p : Place) (ps : List Place) (o : Option ℕ) → block_at (p ∷ ps) (later o) ≡ block_at ps o
block_at_later p ps None = refl
block_at_later p ps (Some i) = refl

holds_is : (mark n : ℕ) → eqb mark (n + 1) ≡ not (eqb mark 0) && eqb (mark - 1) n
holds_is mark n = grind (arith, nat_tests)

-- where a place of the number n stands, by the first place and the others
place_of-cons : (n : ℕ) (p : Place) (ps : List Place)
    → place_of n (p ∷ ps) ≡ cond (has_block p && numbered n (block_in p)) (Some 0) (later (place_of n ps))
place_of-cons n p ps = position-cons (holds n) p ps ∙ ap (λ b. cond b (Some 0) (later (place_of n ps))) (holds_is p.mark n)

taken-block_of : (n : ℕ) (ps : List Place) → taken n ps ≡ block_of n (blocks_in ps)
taken-block_of n [] = refl
taken-block_of n (p ∷ ps) =
    ap (block_at (p ∷ ps)) (place_of-cons n p ps) ∙ go (has_block p) (block_at_later p ps (place_of n ps) ∙ taken-block_of n ps)
  where
    go : (h : Bool) → block_at (p ∷ ps) (later (place_of n ps)) ≡ block_of n (blocks_in ps)
        → block_at (p ∷ ps) (cond (h && numbered n (block_in p)) (Some 0) (later (place_of n ps)))
        ≡ block_of n (cond h (block_in p ∷ blocks_in ps) (blocks_in ps))
    go false rest = rest
    go true rest = at (numbered n (block_in p))
      where
        at : (t : Bool) → block_at (p ∷ ps) (cond t (Some 0) (later (place_of n ps)))
            ≡ cond t (Some (block_in p)) (block_of n (blocks_in ps))
        at true = refl
        at false = rest

without-others : (n : ℕ) (ps : List Place) → apart (blocks_in ps) ≡ true → blocks_in (without n ps) ≡ others n (blocks_in ps)
without-others n [] a = refl
without-others n (p ∷ ps) a =
    ap (λ o. blocks_in (emptied (p ∷ ps) o)) (place_of-cons n p ps) ∙ go (has_block p) refl a (without-others n ps)
  where
    go : (h : Bool) → has_block p ≡ h → apart (cond h (block_in p ∷ blocks_in ps) (blocks_in ps)) ≡ true
        → (apart (blocks_in ps) ≡ true → blocks_in (without n ps) ≡ others n (blocks_in ps))
        → blocks_in (emptied (p ∷ ps) (cond (h && numbered n (block_in p)) (Some 0) (later (place_of n ps))))
        ≡ others n (cond h (block_in p ∷ blocks_in ps) (blocks_in ps))
    go false e k rest = rw (emptied_later p ps (place_of n ps), e) (rest k)
    go true e k rest = at (numbered n (block_in p)) refl
      where
        alone : Lacks (block_in p).number.0 (blocks_in ps) × (apart (blocks_in ps) ≡ true)
        alone = let r = and_parts _ _ k in (lacks_from _ _ (not-true _ r.0), r.1)

        at : (t : Bool) → numbered n (block_in p) ≡ t
            → blocks_in (emptied (p ∷ ps) (cond t (Some 0) (later (place_of n ps)))) ≡ others n (block_in p ∷ blocks_in ps)
        at true s = sym (others-first n (block_in p) (blocks_in ps) s alone.0)
        at false s =
            rw (emptied_later p ps (place_of n ps), e, s) (ap (λ x. block_in p ∷ x) (rest alone.1))

block_of-append : (n : ℕ) (bs cs : List Block) → block_of n (bs ++ cs) ≡ or_else (block_of n bs) (block_of n cs)
block_of-append n [] cs = refl
block_of-append n (b ∷ bs) cs = go (numbered n b) (block_of-append n bs cs)
  where
    go : (t : Bool) → block_of n (bs ++ cs) ≡ or_else (block_of n bs) (block_of n cs)
        → cond t (Some b) (block_of n (bs ++ cs)) ≡ or_else (cond t (Some b) (block_of n bs)) (block_of n cs)
    go true h = refl
    go false h = h

found-block_of : (D n m : ℕ) (bs : Buckets) (k : ℕ) → found_to D n m bs k ≡ block_of n (path_blocks D m bs k)
found-block_of D n m bs zero = refl
found-block_of D n m bs (suc k) =
    rw (found-block_of D n m bs k, taken-block_of n (bucket bs (path D m k)))
    (sym (block_of-append n (path_blocks D m bs k) (blocks_in (bucket bs (path D m k)))))

-- each bucket of the path loses its own block of the number, once
cleared_last : (D n m : ℕ) (bs : Buckets) (k : ℕ) → k ≤ D
    → bucket (cleared_to D n m bs (suc k)) (path D m k) ≡ without n (bucket bs (path D m k))
cleared_last D n m bs k l =
    changed_at [] (without n) refl (cleared_to D n m bs k) (path D m k - 1)
    ∙ ap (without n) (cleared_rest D n m bs (path D m k) (path_positive D m k) k (λ d g e. omega (arith, path_rises D m d k g l)))

cleared_at : (D n m : ℕ) (bs : Buckets) (d k : ℕ) → d < k → k ≤ suc D
    → bucket (cleared_to D n m bs k) (path D m d) ≡ without n (bucket bs (path D m d))
cleared_at D n m bs d zero h l = absurd (let z : ⊥ = omega arith in z)
cleared_at D n m bs d (suc k) h l =
    elim (cases_lt d k) [
      | inl g ↦ bucket_other (cleared_to D n m bs k) (path D m k) (path D m d) _ (path_positive D m k) (path_positive D m d)
          (λ e. omega (arith, path_rises D m d k g (omega arith)))
          ∙ cleared_at D n m bs d k g (omega arith)
      | inr g ↦ let e : d ≡ k = omega arith in rw e (cleared_last D n m bs k (omega arith))
    ]

pub fetch_takes_exactly : FetchTakesExactly
fetch_takes_exactly D n m row =
    record {
      path_loses = λ a d l.
          ap blocks_in (cleared_at D n m row.buckets d (suc D) (omega arith) (omega arith))
          ∙ without-others n (bucket row.buckets (path D m d))
          (all_at [] (λ ps. apart (blocks_in ps) ≡ true) row.buckets (path D m d - 1) refl a);
      queue_loses = refl;
      answers =
          ap (λ o. or_else o (block_of n row.queue)) (found-block_of D n m row.buckets (suc D))
          ∙ sym (block_of-append n (path_blocks D m row.buckets (suc D)) row.queue);
    }
