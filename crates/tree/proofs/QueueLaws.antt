-- Laws of lists of blocks: a search for a number, a block that leaves, and one that comes.
use Rattle.std.proofs.Common.{◌≡◌, ℕ, zero, suc, ◌+◌, ◌-◌, ◌<◌, ◌≤◌, true, false, not, eqb, List, [], ◌∷◌, ◌++◌, length, get_or, take, drop, set, Some, None, sym, refl, ap, ◌∙◌, subst, add-one, arith}
use Rattle.std.proofs.lemmas.List.{length-take-le, length-drop, take_all, take_more_set, get_or-take}
use Rattle.std.proofs.lemmas.Bool.{not-true, not_from_false, and_parts, and_from, or_parts, or_from, ltb-false, ltb-true, eqb-true, eqb-false, ne_eqb, cond-true, cond-false}
use Rattle.std.proofs.lemmas.List.Folds.{find_at, list_any-append, list_any_none}
use Rattle.std.proofs.lemmas.List.Edits.{take-paste}
use Rattle.std.proofs.Math.Seq.{paste}
use Rattle.std.proofs.lemmas.List.Sums.{fails_before_first, passes_at_first}
use Rattle.std.proofs.lemmas.Option.{cond_some, slice_get_past, slice_get-get_or}
use Rattle.std.specs.List.{copy_within, position, position_or_len, slice_get}
use Rattle.tree.specs.declared.block.Block.{Block}
use Rattle.tree.specs.declared.queue.Queue.{Queue}
use Rattle.tree.specs.Blocks.{numbered, has_number, apart, block_of, others, lacking}
use Rattle.tree.specs.Queues.{queued}
use Rattle.tree.proofs.Counts.{given-none}

-- A search for a number.

-- where the search ends
found : (n : ℕ) (bs : List Block) (i : ℕ) → Some i ≡ position (numbered n) bs → (i < length bs) × (i ≡ position_or_len (numbered n) bs)
found n bs i e = let r = cond_some _ _ i (sym e) in (let l = ltb-true _ _ r.0 in omega (arith, r.1), sym r.1)

past : (n : ℕ) (bs : List Block) → None ≡ position (numbered n) bs → length bs ≤ position_or_len (numbered n) bs
past n bs e = ltb-false _ _ (given-none _ _ e)

-- no block before it has the number
none_before : (n : ℕ) (bs : List Block) (i : ℕ) → i ≤ length bs → i ≤ position_or_len (numbered n) bs → has_number n (take i bs) ≡ false
none_before n bs i l h =
    let long : length (take i bs) ≡ i = length-take-le i bs l in
    list_any_none (numbered n) (take i bs)
    (λ k d m. let j : k < i = omega arith in ap (numbered n) (get_or-take i bs k d j) ∙ fails_before_first (numbered n) bs k d (omega arith))

-- the block that it finds, or that there is none
found_block : (n : ℕ) (bs : List Block) (i : ℕ) (d : Block) → Some i ≡ position (numbered n) bs → Some (get_or bs i d) ≡ block_of n bs
found_block n bs i d e =
    let f = found n bs i e in
    sym (find_at (numbered n) bs ∙ (ap (slice_get bs) (sym f.1) ∙ slice_get-get_or bs i d f.0))

pub no_block : (n : ℕ) (bs : List Block) → None ≡ position (numbered n) bs → None ≡ block_of n bs
no_block n bs e = sym (find_at (numbered n) bs ∙ slice_get_past bs _ (past n bs e))

has_push : (n : ℕ) (bs : List Block) (b : Block) → has_number n bs ≡ false → numbered n b ≡ false → has_number n (bs ++ b ∷ []) ≡ false
has_push n bs b h k = list_any-append (numbered n) bs (b ∷ []) ∙ or_from (has_number n bs) _ h (or_from (numbered n b) false k refl)

others-none : (n : ℕ) (bs : List Block) → has_number n bs ≡ false → others n bs ≡ bs
others-none n [] h = refl
others-none n (b ∷ bs) h =
    let p = or_parts (numbered n b) (has_number n bs) h in
    cond-false (numbered n b) (others n bs) (b ∷ others n bs) p.0 ∙ ap (λ xs. b ∷ xs) (others-none n bs p.1)

pub no_others : (n : ℕ) (bs : List Block) → None ≡ position (numbered n) bs → bs ≡ others n bs
no_others n bs e =
    let all = take_all (length bs) bs (omega arith) in
    sym (others-none n bs (ap (has_number n) (sym all) ∙ none_before n bs (length bs) (omega arith) (past n bs e)))

-- no number twice, so the block at an index is the only one of its number
pub others_at : (n : ℕ) (bs : List Block) (i : ℕ) (d : Block) → i < length bs → apart bs ≡ true
    → has_number n (take i bs) ≡ false → numbered n (get_or bs i d) ≡ true → others n bs ≡ lacking i bs
others_at n [] i d l a h k = absurd (omega arith)
others_at n (b ∷ bs) zero d l a h k =
    let p = and_parts (not (has_number b.number.0 bs)) (apart bs) a in
    let e : b.number.0 ≡ n = eqb-true b.number.0 n k in
    let f : has_number n bs ≡ false = subst (λ m. has_number m bs ≡ false) e (not-true (has_number b.number.0 bs) p.0) in
    cond-true (numbered n b) (others n bs) (b ∷ others n bs) k ∙ others-none n bs f
others_at n (b ∷ bs) (suc i) d l a h k =
    let p = or_parts (numbered n b) (has_number n (take i bs)) h in
    let q = and_parts (not (has_number b.number.0 bs)) (apart bs) a in
    cond-false (numbered n b) (others n bs) (b ∷ others n bs) p.0
    ∙ ap (λ xs. b ∷ xs) (others_at n bs i d (omega arith) q.1 p.1 k)

-- Lists with no number twice.

has_lacking : (n i : ℕ) (bs : List Block) → has_number n bs ≡ false → has_number n (lacking i bs) ≡ false
has_lacking n zero [] h = refl
has_lacking n (suc i) [] h = refl
has_lacking n zero (b ∷ bs) h = (or_parts (numbered n b) (has_number n bs) h).1
has_lacking n (suc i) (b ∷ bs) h =
    let p = or_parts (numbered n b) (has_number n bs) h in
    or_from (numbered n b) (has_number n (lacking i bs)) p.0 (has_lacking n i bs p.1)

pub apart-lacking : (i : ℕ) (bs : List Block) → apart bs ≡ true → apart (lacking i bs) ≡ true
apart-lacking zero [] a = refl
apart-lacking (suc i) [] a = refl
apart-lacking zero (b ∷ bs) a = (and_parts (not (has_number b.number.0 bs)) (apart bs) a).1
apart-lacking (suc i) (b ∷ bs) a =
    let p = and_parts (not (has_number b.number.0 bs)) (apart bs) a in
    let f = has_lacking b.number.0 i bs (not-true (has_number b.number.0 bs) p.0) in
    and_from (not (has_number b.number.0 (lacking i bs))) (apart (lacking i bs))
    (not_from_false (has_number b.number.0 (lacking i bs)) f) (apart-lacking i bs p.1)

-- a block of number m is no block of number n, either way round
other_way : (m n : ℕ) → eqb m n ≡ false → eqb n m ≡ false
other_way m n h = ne_eqb n m (λ e. eqb-false m n h (sym e))

pub apart_push : (bs : List Block) (b : Block) → apart bs ≡ true → has_number b.number.0 bs ≡ false → apart (bs ++ b ∷ []) ≡ true
apart_push [] b a h = refl
apart_push (x ∷ bs) b a h =
    let p = and_parts (not (has_number x.number.0 bs)) (apart bs) a in
    let q = or_parts (numbered b.number.0 x) (has_number b.number.0 bs) h in
    let f = has_push x.number.0 bs b (not-true (has_number x.number.0 bs) p.0) (other_way x.number.0 b.number.0 q.0) in
    and_from (not (has_number x.number.0 (bs ++ b ∷ []))) (apart (bs ++ b ∷ []))
    (not_from_false (has_number x.number.0 (bs ++ b ∷ [])) f) (apart_push bs b p.1 q.1)

-- A block that leaves: the later blocks move up, and what is behind them does not matter.

lacking-take : (i n : ℕ) (bs : List Block) → i ≤ n → n < length bs → take n (lacking i bs) ≡ lacking i (take (suc n) bs)
lacking-take i n [] h l = absurd (omega arith)
lacking-take zero n (b ∷ bs) h l = refl
lacking-take (suc i) zero (b ∷ bs) h l = absurd (omega arith)
lacking-take (suc i) (suc n) (b ∷ bs) h l = ap (λ xs. b ∷ xs) (lacking-take i n bs (omega arith) (omega arith))

-- the first n blocks of a list that has lost one: those before it, and then the later ones
lacking_front : (i k n : ℕ) (bs : List Block) → n ≡ i + k → n < length bs → take i bs ++ take k (drop (suc i) bs) ≡ take n (lacking i bs)
lacking_front i k n [] e l = absurd (omega arith)
lacking_front zero k n (b ∷ bs) e l = ap (λ m. take m bs) (omega arith)
lacking_front (suc i) k zero (b ∷ bs) e l = absurd (omega arith)
lacking_front (suc i) k (suc n) (b ∷ bs) e l = ap (λ xs. b ∷ xs) (lacking_front i k n bs (omega arith) (omega arith))

moved_up : (i n : ℕ) (bs : List Block) → i ≤ n → n < length bs → take n (copy_within bs (i + 1) (suc n) i) ≡ lacking i (take (suc n) bs)
moved_up i n bs h l =
    let later = drop (i + 1) bs in
    let long = length-drop (i + 1) bs in
    let few : suc n - (i + 1) ≡ n - i = omega arith in
    let all : i + (n - i) ≡ n = omega arith in
    ap (λ m. take n (paste bs i later m)) few
    ∙ (ap (λ m. take m (paste bs i later (n - i))) (sym all)
    ∙ (take-paste bs i later (n - i) (omega arith) (omega arith)
    ∙ (ap (λ m. take i bs ++ take (n - i) (drop m bs)) (add-one i)
    ∙ (lacking_front i (n - i) n bs (sym all) l ∙ lacking-take i n bs h l))))

-- The same of a queue, whose blocks stand at the front of thirty-two.

pub queued_long : (q : Queue) → length (queued q) ≡ q.count
queued_long q = length-take-le q.count q.blocks (omega arith)

-- what the test for a full queue tells
pub count_room : (q : Queue) → false ≡ eqb (length (queued q)) 32 → q.count < 32
count_room q e =
    let ne : q.count ≡ 32 → ⊥ = λ k. eqb-false (length (queued q)) 32 (sym e) (queued_long q ∙ k) in
    omega (arith, q.few)

-- the block at an index leaves
pub left_at : (q : Queue) (i : ℕ) (ys : List Block) → i < q.count → ys ≡ copy_within q.blocks (i + 1) q.count i
    → take (q.count - 1) ys ≡ lacking i (queued q)
left_at q i ys k e =
    let one : suc (q.count - 1) ≡ q.count = omega arith in
    ap (take (q.count - 1)) e
    ∙ (ap (λ n. take (q.count - 1) (copy_within q.blocks (i + 1) n i)) (sym one)
    ∙ (moved_up i (q.count - 1) q.blocks (omega arith) (omega arith) ∙ ap (λ j. lacking i (take j q.blocks)) one))

pub left_numbered : (n : ℕ) (q : Queue) (i : ℕ) (d : Block) → Some i ≡ position (numbered n) (queued q) → lacking i (queued q) ≡ others n (queued q)
left_numbered n q i d e =
    let f = found n (queued q) i e in
    let passes : numbered n (get_or (queued q) i d) ≡ true =
    ap (λ k. numbered n (get_or (queued q) k d)) f.1 ∙ passes_at_first (numbered n) (queued q) d (let l = f.0 in omega arith) in
    sym (others_at n (queued q) i d f.0 q.distinct (none_before n (queued q) i (let l = f.0 in omega arith) (omega arith)) passes)

pub taken_at : (n : ℕ) (q : Queue) (i : ℕ) (d : Block) → Some i ≡ position (numbered n) (queued q) → Some (get_or q.blocks i d) ≡ block_of n (queued q)
taken_at n q i d e =
    let f = found n (queued q) i e in
    ap (λ b. Some b) (sym (get_or-take q.count q.blocks i d (omega (arith, queued_long q)))) ∙ found_block n (queued q) i d e

-- a block comes
pub come_last : (q : Queue) (b : Block) → q.count < 32 → take (q.count + 1) (set q.blocks q.count b) ≡ queued q ++ b ∷ []
come_last q b h = take_more_set q.blocks q.count b (omega arith)
