-- What the steps keep of a row in order.
use Rattle.std.proofs.Common.{◌≡◌, ℕ, zero, suc, ◌+◌, ◌^◌, ◌<◌, true, not, List, [], ◌∷◌, ◌++◌, length, get_or, replicate, Some, None, Option, sym, refl, ap, ◌∙◌, append_assoc, arith}
use mathlib.Core.List.Permᴰ
use mathlib.Core.List.{Permᴰ}
use Rattle.std.specs.Option.{option_map}
use Rattle.std.specs.List.{flat_map, AllByRecursion}
use Rattle.std.proofs.lemmas.Nat.{pow_pos}
use Rattle.std.proofs.ByRecursion.{All-get_or, All-set}
use Rattle.std.proofs.lemmas.List.{get_or-set_other, length-append, length-set}
use Rattle.std.proofs.lemmas.Bool.{and_from, cond-true, cond-false, eq-eqb, lt-ltb, ne_eqb, not_from_false, or_right}
use Rattle.tree.specs.declared.block.Block.{Block}
use Rattle.tree.specs.declared.place.Place.{Place}
use Rattle.tree.specs.Blocks.{accepts, apart, block_of, capacity, numbered, others}
use Rattle.tree.specs.Places.{blocks_in, empty_place, is_empty, place_for}
use Rattle.steps.specs.Steps.{Row, arriving, dequeued_all}
use Rattle.steps.specs.Laws.{OnPath, Placed, row_blocks}
use Rattle.steps.specs.Order.{FirstHalf, InOrder, MayArrive, OrderKept, SecondHalf, cleared_row, content, empty_or_block}
use Rattle.steps.proofs.Buckets.{all_at}
use Rattle.steps.proofs.Everywhere.{all_parts, all_rearranged, all_replicate, all_with}
use Rattle.steps.proofs.FetchOrder.{fetched_blocks, found_first}
use Rattle.steps.proofs.Lookups.{Lacks, apart_from, apart_rearranged, apart_test, block_of_lacks, block_of_rearranged, few, lacks_block_of, lacks_test, others-all, others_apart, others_find, others_lack}
use Rattle.steps.proofs.Placed.{steps_keep_placed}
use Rattle.steps.proofs.Rearrange.{steps_rearrange}
use Rattle.steps.proofs.Whole.{cleared_every, dequeues_every}

-- a place is empty or has a block
abbrev Ok : Place → Type 0
Ok p = empty_or_block p ≡ true

block_ok : (b : Block) → Ok (place_for b)
block_ok b = or_right (is_empty (place_for b)) _ (ap not (ne_eqb (b.number.0 + 1) 0 (λ z. omega arith)))

of_first_half : (D : ℕ) (leaves : List ℕ) (i new : ℕ) (row : Row) → InOrder D leaves row → i < length leaves → new < 2 ^ D
    → FirstHalf D leaves i new row
of_first_half D leaves i new row o l fits =
    let e = fetched_blocks D leaves row o i in
    record {
      ordered = record {
        whole = cleared_every Ok refl block_ok D i (get_or leaves i 0) row.buckets (suc D) o.whole;
        distinct = rw e (apart_test _ (others_apart i (row_blocks row) (apart_from _ o.distinct)));
        placed = steps_keep_placed.fetch D i (get_or leaves i 0) row o.placed;
        counted = rw (e, length-set leaves i new) (others-all _ i (row_blocks row) o.counted);
        known = rw e
            (all_with _ _ _ (λ b h other. h ∙ sym (get_or-set_other leaves i b.number.0 new 0 other)) (others i (row_blocks row))
            (others-all _ i (row_blocks row) o.known) (others_lack i (row_blocks row)));
        leaves_fit = All-set _ leaves i new fits o.leaves_fit;
      };
      gone = rw e (ap (option_map (λ b. b.words)) (block_of_lacks i _ (others_lack i (row_blocks row))));
      same = λ j n. rw e (ap (option_map (λ b. b.words)) (others_find i j n (row_blocks row)));
      answer = found_first D leaves row o i;
    }

-- a row whose blocks are a rearrangement of blocks with no number twice
module _ (bs : List Block) (distinct : apart bs ≡ true) (row : Row) (moves : Permᴰ bs (row_blocks row)) where
  reordered : (D : ℕ) (leaves : List ℕ) → AllByRecursion (AllByRecursion Ok) row.buckets → Placed D row → AllByRecursion (λ b. b.number.0 < length leaves) bs
      → AllByRecursion (λ b. b.leaf.0 ≡ get_or leaves b.number.0 0) bs → AllByRecursion (λ m. m < 2 ^ D) leaves → InOrder D leaves row
  reordered D leaves whole placed counted known fit =
      record {
        whole = whole;
        distinct = apart_test _ (apart_rearranged moves (apart_from bs distinct));
        placed = placed;
        counted = all_rearranged _ moves counted;
        known = all_rearranged _ moves known;
        leaves_fit = fit;
      }

  same_content : (j : ℕ) → content j row ≡ option_map (λ b. b.words) (block_of j bs)
  same_content j = ap (option_map (λ b. b.words)) (sym (block_of_rearranged j bs (row_blocks row) moves (apart_from bs distinct)))

module _ (D : ℕ) (leaves : List ℕ) (ms : List ℕ) (row : Row) (o : InOrder D leaves row) where
  dequeues_ordered : InOrder D leaves (dequeued_all D ms row)
  dequeues_ordered =
      reordered (row_blocks row) o.distinct (dequeued_all D ms row) (steps_rearrange.dequeues D ms row) D leaves
      (dequeues_every Ok refl block_ok D ms row o.whole) (steps_keep_placed.of_second_half D None ms row tt o.placed)
      o.counted o.known o.leaves_fit

  dequeues_hold : (j : ℕ) → content j (dequeued_all D ms row) ≡ content j row
  dequeues_hold = same_content (row_blocks row) o.distinct (dequeued_all D ms row) (steps_rearrange.dequeues D ms row)

mapped_none : {X Y : Type 0} (f : X → Y) (x : Option X) → option_map f x ≡ None → x ≡ None
mapped_none f None e = refl
mapped_none f (Some x) e = absurd (let z : ◌≡◌ {A = ℕ} 0 1 = cc in let n : ⊥ = omega arith in n)

-- a block of number i arrives at a row that has none
module _ (D : ℕ) (leaves : List ℕ) (i : ℕ) (b : Block) (row : Row) (o : InOrder D leaves row) (l : i < length leaves)
    (gone : content i row ≡ None) (room : length row.queue < capacity)
    (may : (b.number.0 ≡ i) × (b.leaf.0 ≡ get_or leaves i 0)) where
  abbrev after : Row
  after = arriving (Some b) row

  alone : Lacks b.number.0 (row_blocks row)
  alone = rw may.0 (lacks_block_of i (row_blocks row) (mapped_none _ _ gone))

  distinct : apart (b ∷ row_blocks row) ≡ true
  distinct = apart_test (b ∷ row_blocks row) (alone, apart_from _ o.distinct)

  -- it comes to the queue's end, and so among the row's blocks
  arrival : Permᴰ (b ∷ row_blocks row) (row_blocks after)
  arrival =
      let free = lacks_test _ row.queue (all_parts _ row.queue _ alone).0 in
      let h : accepts b row.queue ≡ true = and_from _ _ (lt-ltb _ _ room) (not_from_false _ free) in
      rw (cond-true _ (row.queue ++ b ∷ []) row.queue h, append_assoc) (Permᴰ.symm (Permᴰ.middle b row.queue _))

  arrived_ordered : InOrder D leaves after
  arrived_ordered =
      reordered (b ∷ row_blocks row) distinct after arrival D leaves o.whole
      (steps_keep_placed.arrive D (Some b) row (rw may.1 (All-get_or _ leaves i 0 l o.leaves_fit)) o.placed)
      (rw may.0 l, o.counted) (may.1 ∙ ap (λ n. get_or leaves n 0) (sym may.0), o.known) o.leaves_fit

  arrived_holds : content i after ≡ Some b.words
  arrived_holds =
      same_content (b ∷ row_blocks row) distinct after arrival i
      ∙ ap (option_map (λ x. x.words)) (cond-true (numbered i b) (Some b) (block_of i (row_blocks row)) (eq-eqb _ _ may.0))

  arrived_same : (j : ℕ) → (j ≡ i → ⊥) → content j after ≡ content j row
  arrived_same j n =
      same_content (b ∷ row_blocks row) distinct after arrival j
      ∙ ap (option_map (λ x. x.words))
      (cond-false (numbered j b) (Some b) (block_of j (row_blocks row)) (ne_eqb _ _ (λ e. n (sym e ∙ may.0))))

of_second_half : (D : ℕ) (leaves : List ℕ) (i : ℕ) (arrives : Option Block) (flushes : List ℕ) (row : Row)
    → InOrder D leaves row → i < length leaves → content i row ≡ None → length row.queue < capacity
    → MayArrive leaves i arrives → SecondHalf D leaves i arrives flushes row
of_second_half D leaves i None ms row o l gone room may =
    record {
      ordered = dequeues_ordered D leaves ms row o;
      holds = dequeues_hold D leaves ms row o i ∙ gone;
      same = λ j _. dequeues_hold D leaves ms row o j;
    }
of_second_half D leaves i (Some b) ms row o l gone room may =
    let new = arrived_ordered D leaves i b row o l gone room may in
    record {
      ordered = dequeues_ordered D leaves ms (arriving (Some b) row) new;
      holds = dequeues_hold D leaves ms (arriving (Some b) row) new i ∙ arrived_holds D leaves i b row o l gone room may;
      same = λ j n. dequeues_hold D leaves ms (arriving (Some b) row) new j ∙ arrived_same D leaves i b row o l gone room may j n;
    }

-- cleared buckets have no block
no_blocks : (count : ℕ) → flat_map blocks_in (cleared_row count).buckets ≡ []
no_blocks zero = refl
no_blocks (suc count) = no_blocks count

cleared : (D n count : ℕ) → InOrder D (replicate n 0) (cleared_row count)
cleared D n count =
    record {
      whole = all_replicate _ count (replicate 4 empty_place) (refl, (refl, (refl, (refl, tt))));
      distinct = rw (no_blocks count);
      placed = record {
        tree = λ v _.
            all_at [] (λ ps. AllByRecursion (λ b. OnPath D b.leaf.0 v) (blocks_in ps)) (cleared_row count).buckets _ tt
            (all_replicate _ count (replicate 4 empty_place) tt);
        waiting = tt;
      };
      counted = rw (no_blocks count) tt;
      known = rw (no_blocks count) tt;
      leaves_fit = all_replicate _ n 0 (pow_pos D);
    }

never_full : (D : ℕ) (leaves : List ℕ) (row : Row) → InOrder D leaves row → length leaves < capacity
    → length row.queue < capacity
never_full D leaves row o l =
    omega (
      arith,
      few (length leaves) (row_blocks row) (apart_from _ o.distinct) o.counted,
      length-append row.queue (flat_map blocks_in row.buckets),
    )

pub order_kept : OrderKept
order_kept =
    record {
      cleared = cleared;
      cleared_holds = λ i count. ap (λ bs. option_map (λ b. b.words) (block_of i bs)) (no_blocks count);
      of_first_half = of_first_half;
      of_second_half = of_second_half;
      drain = λ D m leaves row o. dequeues_ordered D leaves (m ∷ []) row o;
      drain_holds = λ D m leaves row o. dequeues_hold D leaves (m ∷ []) row o;
      never_full = never_full;
    }
