-- Put-back and flush lose nothing and double nothing.
use Rattle.std.proofs.Common.{◌≡◌, ℕ, zero, suc, ◌+◌, ◌-◌, ◌<◌, ◌≤◌, Bool, true, false, cond, not, List, [], ◌∷◌, ◌++◌, length, get_or, set, Some, None, Option, sym, refl, ap, append_assoc, arith}
use mathlib.Core.List.Permᴰ
use mathlib.Core.List.{Permᴰ}
use Rattle.std.specs.List.{flat_map}
use Rattle.std.proofs.lemmas.Bool.{and_parts, ne_eqb, cond-true, cond-false}
use Rattle.tree.specs.declared.block.Block.{Block}
use Rattle.tree.specs.declared.place.Place.{Place}
use Rattle.tree.specs.Choice.{chosen}
use Rattle.tree.specs.Paths.{path}
use Rattle.tree.specs.Places.{has_block, block_in, blocks_in, empty_place, lowest_empty, place_for, entry_place, fits_place}
use Rattle.tree.proofs.PathLaws.{path_positive, path_rises}
use Rattle.steps.specs.Steps.{Buckets, Row, bucket, with_bucket, put_back_at, put_back_from, put_back, moved_by, moved, flushed_to, flushed, dequeued, dequeued_all}
use Rattle.steps.specs.Laws.{row_blocks, StepsRearrange}
use Rattle.steps.proofs.Buckets.{within_range, bucket_other}
use Rattle.tree.proofs.Firsts.{under, empty_free, chosen_moves}

module _ {A : Type 0} where
  -- two parts at the front change places
  exchange : (xs ys zs : List A) → Permᴰ (xs ++ (ys ++ zs)) (ys ++ (xs ++ zs))
  exchange [] ys zs = Permᴰ.refl (ys ++ zs)
  exchange (x ∷ xs) ys zs =
      Permᴰ.trans (Permᴰ.cons refl (exchange xs ys zs)) (Permᴰ.symm (Permᴰ.middle x ys (xs ++ zs)))

  -- where element i changes, and with that some come in and some go out
  joined_set : {X : Type 0} (f : X → List A) (d : X) (in' out : List A) (xs : List X) (i : ℕ) (y : X) → i < length xs
      → Permᴰ (in' ++ f (get_or xs i d)) (out ++ f y) → Permᴰ (in' ++ flat_map f xs) (out ++ flat_map f (set xs i y))
  joined_set f d in' out [] i y h p = absurd (let z : ⊥ = omega arith in z)
  joined_set f d in' out (x ∷ xs) zero y h p =
      simp append_assoc at (Permᴰ.append_right (flat_map f xs) p)
  joined_set f d in' out (x ∷ xs) (suc i) y h p =
      Permᴰ.trans (exchange in' (f x) (flat_map f xs))
      (Permᴰ.trans (Permᴰ.append_left (f x) (joined_set f d in' out xs i y (omega arith) p))
      (exchange (f x) out (flat_map f (set xs i y))))

-- the block of a place, if it has one
abbrev in_place : Place → List Block
in_place p = cond (has_block p) (block_in p ∷ []) []

blocks_joined : (ps : List Place) → blocks_in ps ≡ flat_map in_place ps
blocks_joined [] = refl
blocks_joined (p ∷ ps) = go (has_block p) (blocks_joined ps)
  where
    go : (h : Bool) → blocks_in ps ≡ flat_map in_place ps
        → cond h (block_in p ∷ blocks_in ps) (blocks_in ps) ≡ cond h (block_in p ∷ []) [] ++ flat_map in_place ps
    go true e = ap (λ x. block_in p ∷ x) e
    go false e = e

blocks_set : (in' out : List Block) (ps : List Place) (i : ℕ) (p : Place) → i < length ps
    → Permᴰ (in' ++ in_place (get_or ps i empty_place)) (out ++ in_place p)
    → Permᴰ (in' ++ blocks_in ps) (out ++ blocks_in (set ps i p))
blocks_set in' out ps i p h e = rw (blocks_joined ps, blocks_joined (set ps i p)) (joined_set in_place empty_place in' out ps i p h e)

-- the same of a bucket's place, in all buckets
row_set : (in' out : List Block) (bs : Buckets) (v i : ℕ) (p : Place) → i < length (bucket bs v)
    → Permᴰ (in' ++ in_place (get_or (bucket bs v) i empty_place)) (out ++ in_place p)
    → Permᴰ (in' ++ flat_map blocks_in bs) (out ++ flat_map blocks_in (with_bucket bs v (set (bucket bs v) i p)))
row_set in' out bs v i p h e =
    joined_set blocks_in [] in' out bs (v - 1) (set (bucket bs v) i p) (within_range bs (v - 1) i h)
    (blocks_set in' out (bucket bs v) i p h e)

one : (p : Place) → has_block p ≡ true → in_place p ≡ block_in p ∷ []
one p h = cond-true (has_block p) (block_in p ∷ []) [] h

none : (p : Place) → has_block p ≡ false → in_place p ≡ []
none p h = cond-false (has_block p) (block_in p ∷ []) [] h

-- a block comes to a place that had none
enters : (bs : Buckets) (v : ℕ) (ps : List Place) (i : ℕ) (p : Place) → bucket bs v ≡ ps → i < length ps
    → has_block (get_or ps i empty_place) ≡ false → has_block p ≡ true
    → Permᴰ (block_in p ∷ flat_map blocks_in bs) (flat_map blocks_in (with_bucket bs v (set ps i p)))
enters bs v ps i p e h free full =
    let h' : i < length (bucket bs v) = rw e h in
    rw (← e) (row_set (block_in p ∷ []) [] bs v i p h' (rw (e, none (get_or ps i empty_place) free, one p full) (Permᴰ.refl (block_in p ∷ []))))

-- and leaves its place
leaves : (bs : Buckets) (v i : ℕ) → i < length (bucket bs v) → has_block (get_or (bucket bs v) i empty_place) ≡ true
    → Permᴰ (flat_map blocks_in bs)
    (block_in (get_or (bucket bs v) i empty_place) ∷ flat_map blocks_in (with_bucket bs v (set (bucket bs v) i empty_place)))
leaves bs v i h full =
    let p : Place = get_or (bucket bs v) i empty_place in
    row_set [] (block_in p ∷ []) bs v i empty_place h (rw (one p full) (Permᴰ.refl (block_in p ∷ [])))

block_in-place_for : (b : Block) → block_in (place_for b) ≡ b
block_in-place_for b =
    let e : b.number.0 + 1 - 1 ≡ b.number.0 = omega arith in
    ap (λ n. record { number = record { 0 = n }; leaf = b.leaf; words = b.words; eight = b.eight }) e

put_back_rearranges : (bs : Buckets) (q : List Block) → Permᴰ (q ++ flat_map blocks_in bs) (row_blocks (put_back_from bs q))
put_back_rearranges bs [] = Permᴰ.refl (flat_map blocks_in bs)
put_back_rearranges bs (b ∷ rest) = go (entry_place b (bucket bs 1)) refl
  where
    go : (o : Option ℕ) → entry_place b (bucket bs 1) ≡ o
        → Permᴰ (b ∷ (rest ++ flat_map blocks_in bs)) (row_blocks (put_back_at bs b rest o))
    go None e = Permᴰ.refl (b ∷ (rest ++ flat_map blocks_in bs))
    go (Some i) e =
        let r = empty_free (bucket bs 1) i (under (fits_place b) (lowest_empty (bucket bs 1)) i e).1 in
        Permᴰ.trans (Permᴰ.symm (Permᴰ.middle b rest (flat_map blocks_in bs)))
        (Permᴰ.append_left rest
        (Permᴰ.trans (Permᴰ.cons (sym (block_in-place_for b)) (Permᴰ.refl (flat_map blocks_in bs)))
        (enters bs 1 (bucket bs 1) i (place_for b) refl r.0 r.1 (ap not (ne_eqb (b.number.0 + 1) 0 (λ z. omega arith))))))

moved_rearranges : (D m : ℕ) (bs : Buckets) (k : ℕ) → k < D → Permᴰ (flat_map blocks_in bs) (flat_map blocks_in (moved D m bs k))
moved_rearranges D m bs k l = go (chosen D m (suc k) (bucket bs u) (bucket bs v)) refl
  where
    u : ℕ
    u = path D m k

    v : ℕ
    v = path D m (suc k)

    go : (o : Option ℕ) → chosen D m (suc k) (bucket bs u) (bucket bs v) ≡ o
        → Permᴰ (flat_map blocks_in bs) (flat_map blocks_in (moved_by bs u v o))
    go None e = Permᴰ.refl (flat_map blocks_in bs)
    go (Some i) e =
        let c = chosen_moves D m (suc k) (bucket bs u) (bucket bs v) i e in
        let full = (and_parts _ _ c.1).0 in
        let free = empty_free (bucket bs v) c.2.0 c.2.1 in
        let apart : path D m k ≡ path D m (suc k) → ⊥ = λ s. omega (arith, path_rises D m k (suc k) (omega arith) l) in
        rw c.2.1
        (Permᴰ.trans (leaves bs u i c.0 full)
        (enters _ v (bucket bs v) c.2.0 (get_or (bucket bs u) i empty_place)
        (bucket_other bs u v _ (path_positive D m k) (path_positive D m (suc k)) apart) free.0 free.1 full))

flushed_rearranges : (D m : ℕ) (bs : Buckets) (k : ℕ) → k ≤ D
    → Permᴰ (flat_map blocks_in bs) (flat_map blocks_in (flushed_to D m bs k))
flushed_rearranges D m bs zero l = Permᴰ.refl (flat_map blocks_in bs)
flushed_rearranges D m bs (suc k) l =
    Permᴰ.trans (flushed_rearranges D m bs k (omega arith)) (moved_rearranges D m (flushed_to D m bs k) k l)

of_put_back : (row : Row) → Permᴰ (row_blocks row) (row_blocks (put_back row))
of_put_back row = put_back_rearranges row.buckets row.queue

flush : (D m : ℕ) (row : Row) → Permᴰ (row_blocks row) (row_blocks (flushed D m row))
flush D m row = Permᴰ.append_left row.queue (flushed_rearranges D m row.buckets D (omega arith))

dequeue : (D m : ℕ) (row : Row) → Permᴰ (row_blocks row) (row_blocks (dequeued D m row))
dequeue D m row = Permᴰ.trans (of_put_back row) (flush D m (put_back row))

dequeues : (D : ℕ) (ms : List ℕ) (row : Row) → Permᴰ (row_blocks row) (row_blocks (dequeued_all D ms row))
dequeues D [] row = Permᴰ.refl (row_blocks row)
dequeues D (m ∷ ms) row = Permᴰ.trans (dequeue D m row) (dequeues D ms (dequeued D m row))

pub steps_rearrange : StepsRearrange
steps_rearrange = record { of_put_back = of_put_back; flush = flush; dequeue = dequeue; dequeues = dequeues }
