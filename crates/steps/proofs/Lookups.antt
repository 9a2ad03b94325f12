-- Lists of blocks with no number twice: what they hold under a number, rearranged or without the blocks of a number.
use Rattle.std.proofs.Common.{◌≡◌, ℕ, zero, suc, ◌<◌, ◌≤◌, Bool, true, false, cond, List, [], ◌∷◌, ◌++◌, length, Some, None, sym, refl, ap, ◌∙◌, subst, arith}
use mathlib.Core.List.Permᴰ
use mathlib.Core.List.{Permᴰ}
use Rattle.std.specs.List.{AllByRecursion}
use Rattle.std.proofs.ByRecursion.{All-weaker}
use Rattle.std.proofs.lemmas.Bool.{and_parts, and_from, not-true, not_from_false, or_parts, or_from, ne_eqb, eqb-true, eqb-false, cond-true, cond-false, cond_both}
use Rattle.tree.specs.declared.block.Block.{Block}
use Rattle.tree.specs.Blocks.{numbered, has_number, apart, block_of, others}
use Rattle.steps.proofs.Everywhere.{all_rearranged, all_parts, all_with}

-- no block has the number n
abbrev pub Lacks : ℕ → List Block → Type 0
Lacks n bs = AllByRecursion (λ b. b.number.0 ≡ n → ⊥) bs

-- no number twice
abbrev pub Apart : List Block → Type 0
Apart [] = Unit {0}
Apart (b ∷ bs) = Lacks b.number.0 bs × Apart bs

pub lacks_from : (n : ℕ) (bs : List Block) → has_number n bs ≡ false → Lacks n bs
lacks_from n [] h = tt
lacks_from n (b ∷ bs) h = let r = or_parts _ _ h in (eqb-false _ _ r.0, lacks_from n bs r.1)

pub lacks_test : (n : ℕ) (bs : List Block) → Lacks n bs → has_number n bs ≡ false
lacks_test n [] a = refl
lacks_test n (b ∷ bs) a = or_from _ _ (ne_eqb _ _ a.0) (lacks_test n bs a.1)

pub apart_from : (bs : List Block) → apart bs ≡ true → Apart bs
apart_from [] h = tt
apart_from (b ∷ bs) h =
    let r = and_parts _ _ h in
    (lacks_from b.number.0 bs (not-true _ r.0), apart_from bs r.1)

pub apart_test : (bs : List Block) → Apart bs → apart bs ≡ true
apart_test [] a = refl
apart_test (b ∷ bs) a =
    and_from _ _ (not_from_false _ (lacks_test b.number.0 bs a.0)) (apart_test bs a.1)

pub apart_parts : (bs cs : List Block) → Apart (bs ++ cs) → Apart bs × Apart cs
apart_parts [] cs a = (tt, a)
apart_parts (b ∷ bs) cs a =
    let r = apart_parts bs cs a.1 in
    (((all_parts _ bs cs a.0).0, r.0), r.1)

pub apart_rearranged : {bs cs : List Block} → Permᴰ bs cs → Apart bs → Apart cs
apart_rearranged Permᴰ.nil a = a
apart_rearranged (Permᴰ.cons {l₂ = cs} e d) a =
    (subst (λ b. Lacks b.number.0 cs) e (all_rearranged _ d a.0), apart_rearranged d a.1)
apart_rearranged (Permᴰ.swap {b = c} {b' = b} {l = bs} e f) a =
    subst (λ x. Apart (x ∷ b ∷ bs)) f
    (subst (λ x. Apart (c ∷ x ∷ bs)) e ((λ s. a.0.0 (sym s), a.1.0), (a.0.1, a.1.1)))
apart_rearranged (Permᴰ.trans d e) a = apart_rearranged e (apart_rearranged d a)

-- what a list with no block of the number n holds under n: nothing
pub block_of_lacks : (n : ℕ) (bs : List Block) → Lacks n bs → block_of n bs ≡ None
block_of_lacks n [] a = refl
block_of_lacks n (b ∷ bs) a = cond-false (numbered n b) (Some b) (block_of n bs) (ne_eqb _ _ a.0) ∙ block_of_lacks n bs a.1

pub lacks_block_of : (n : ℕ) (bs : List Block) → block_of n bs ≡ None → Lacks n bs
lacks_block_of n [] e = tt
lacks_block_of n (b ∷ bs) e = go (numbered n b) refl e (lacks_block_of n bs)
  where
    go : (t : Bool) → numbered n b ≡ t → cond t (Some b) (block_of n bs) ≡ None → (block_of n bs ≡ None → Lacks n bs)
        → Lacks n (b ∷ bs)
    go true s h rest = absurd (let z : ◌≡◌ {A = ℕ} 0 1 = cc in let n : ⊥ = omega arith in n)
    go false s h rest = (eqb-false _ _ s, rest h)

-- where no number stands twice, each block is the one that its number finds
pub finds_itself : (n : ℕ) (bs : List Block) → Apart bs → AllByRecursion (λ b. b.number.0 ≡ n → block_of n bs ≡ Some b) bs
finds_itself n [] a = tt
finds_itself n (b ∷ bs) a = go (numbered n b) refl (finds_itself n bs a.1)
  where
    go : (t : Bool) → numbered n b ≡ t → AllByRecursion (λ c. c.number.0 ≡ n → block_of n bs ≡ Some c) bs
        → AllByRecursion (λ c. c.number.0 ≡ n → cond t (Some b) (block_of n bs) ≡ Some c) (b ∷ bs)
    go true s rest =
        (λ _. refl, All-weaker _ _ (λ c other e. absurd (other (e ∙ sym (eqb-true _ _ s)))) bs a.0)
    go false s rest = (λ e. absurd (eqb-false _ _ s e), rest)

-- two lists hold the same under n: what the first has of that number the second finds, and it has none where the first has none
pub same_block : (n : ℕ) (bs cs : List Block) → AllByRecursion (λ b. b.number.0 ≡ n → block_of n cs ≡ Some b) bs
    → (Lacks n bs → Lacks n cs) → block_of n bs ≡ block_of n cs
same_block n [] cs a h = sym (block_of_lacks n cs (h tt))
same_block n (b ∷ bs) cs a h =
    go (numbered n b) refl (λ (other : b.number.0 ≡ n → ⊥). same_block n bs cs a.1 (λ k. h (other, k)))
  where
    go : (t : Bool) → numbered n b ≡ t → ((b.number.0 ≡ n → ⊥) → block_of n bs ≡ block_of n cs)
        → cond t (Some b) (block_of n bs) ≡ block_of n cs
    go true s rest = sym (a.0 (eqb-true _ _ s))
    go false s rest = rest (eqb-false _ _ s)

pub block_of_rearranged : (n : ℕ) (bs cs : List Block) → Permᴰ bs cs → Apart bs → block_of n bs ≡ block_of n cs
block_of_rearranged n bs cs d a =
    same_block n bs cs (all_rearranged _ (Permᴰ.symm d) (finds_itself n cs (apart_rearranged d a))) (all_rearranged _ d)

-- the blocks without those of the number n: what held of all holds, and no number stands twice
pub others-all : (P : Block → Type 0) (n : ℕ) (bs : List Block) → AllByRecursion P bs → AllByRecursion P (others n bs)
others-all P n [] a = a
others-all P n (b ∷ bs) a =
    let rest = others-all P n bs a.1 in
    cond_both (numbered n b) (others n bs) (b ∷ others n bs) (AllByRecursion P) (λ _. rest) (λ _. (a.0, rest))

pub others_apart : (n : ℕ) (bs : List Block) → Apart bs → Apart (others n bs)
others_apart n [] a = tt
others_apart n (b ∷ bs) a =
    let rest = others_apart n bs a.1 in
    cond_both (numbered n b) (others n bs) (b ∷ others n bs) Apart (λ _. rest) (λ _. (others-all _ n bs a.0, rest))

-- none of the number n is left, and where there was none all are left
pub others_lack : (n : ℕ) (bs : List Block) → Lacks n (others n bs)
others_lack n [] = tt
others_lack n (b ∷ bs) =
    let rest = others_lack n bs in
    cond_both (numbered n b) (others n bs) (b ∷ others n bs) (Lacks n) (λ _. rest) (λ e. (eqb-false _ _ e, rest))

pub others-none : (n : ℕ) (bs : List Block) → Lacks n bs → others n bs ≡ bs
others-none n [] a = refl
others-none n (b ∷ bs) a =
    cond-false (numbered n b) (others n bs) (b ∷ others n bs) (ne_eqb _ _ a.0) ∙ ap (λ x. b ∷ x) (others-none n bs a.1)

-- a block goes, and no other has its number
pub others-first : (n : ℕ) (b : Block) (bs : List Block) → numbered n b ≡ true → Lacks b.number.0 bs → others n (b ∷ bs) ≡ bs
others-first n b bs e a =
    cond-true (numbered n b) (others n bs) (b ∷ others n bs) e
    ∙ others-none n bs (subst (λ x. Lacks x bs) (eqb-true _ _ e) a)

pub others-append : (n : ℕ) (bs cs : List Block) → others n (bs ++ cs) ≡ others n bs ++ others n cs
others-append n [] cs = refl
others-append n (b ∷ bs) cs = go (numbered n b) (others-append n bs cs)
  where
    go : (t : Bool) → others n (bs ++ cs) ≡ others n bs ++ others n cs
        → cond t (others n (bs ++ cs)) (b ∷ others n (bs ++ cs)) ≡ cond t (others n bs) (b ∷ others n bs) ++ others n cs
    go true h = h
    go false h = ap (λ x. b ∷ x) h

-- each other number finds what it found
pub others_find : (n m : ℕ) → (m ≡ n → ⊥) → (bs : List Block) → block_of m (others n bs) ≡ block_of m bs
others_find n m h [] = refl
others_find n m h (b ∷ bs) = go (numbered n b) refl (others_find n m h bs)
  where
    go : (t : Bool) → numbered n b ≡ t → block_of m (others n bs) ≡ block_of m bs
        → block_of m (cond t (others n bs) (b ∷ others n bs)) ≡ cond (numbered m b) (Some b) (block_of m bs)
    go true s rest =
        rest ∙ sym (cond-false (numbered m b) (Some b) (block_of m bs) (ne_eqb _ _ (λ e. h (sym e ∙ eqb-true _ _ s))))
    go false s rest = ap (cond (numbered m b) (Some b)) rest

-- numbers below n, none twice: there are at most n
others_fewer : (n : ℕ) (bs : List Block) → Apart bs → length bs ≤ suc (length (others n bs))
others_fewer n [] a = omega arith
others_fewer n (b ∷ bs) a = go (numbered n b) refl (others_fewer n bs a.1)
  where
    go : (t : Bool) → numbered n b ≡ t → length bs ≤ suc (length (others n bs))
        → suc (length bs) ≤ suc (length (cond t (others n bs) (b ∷ others n bs)))
    go true s rest = omega (arith, ap length (others-none n bs (subst (λ x. Lacks x bs) (eqb-true _ _ s) a.0)))
    go false s rest = omega arith

pub few : (n : ℕ) (bs : List Block) → Apart bs → AllByRecursion (λ b. b.number.0 < n) bs → length bs ≤ n
few zero [] a h = omega arith
few zero (b ∷ bs) a h = absurd (let z : ⊥ = omega (arith, h.0) in z)
few (suc n) bs a h =
    let below = all_with _ _ (λ b. b.number.0 < n) (λ b l other. omega arith) (others n bs) (others-all _ n bs h) (others_lack n bs) in
    omega (arith, others_fewer n bs a, few n (others n bs) (others_apart n bs a) below)
