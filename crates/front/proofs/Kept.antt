-- What a request keeps and changes of a row in order.
use Rattle.std.proofs.Common.{◌≡◌, ℕ, ◌^◌, ◌<◌, ◌≤◌, Bool, true, false, cond, eqb, List, [], ◌∷◌, length, get_or, set, IfSome, Some, None, Option, sym, refl, ap, ◌∙◌, inl, inr, arith}
use Rattle.std.specs.Option.{option_map}
use Rattle.std.proofs.lemmas.List.{get_or-set_same, length-set, length-take}
use Rattle.std.proofs.lemmas.Bool.{cases_lt, cond_both, eqb-false}
use Rattle.tree.specs.declared.block.Block.{Block}
use Rattle.tree.specs.declared.queue.Queue.{Queue}
use Rattle.tree.specs.Blocks.{capacity, numbered, others}
use Rattle.tree.specs.Queues.{queued}
use Rattle.steps.specs.Order.{FirstHalf, InOrder, MayArrive, SecondHalf, content}
use Rattle.steps.specs.Steps.{Row, fetched, found, second_half}
use Rattle.steps.proofs.Order.{order_kept}
use Rattle.front.specs.Fronts.{deeper, front_unfit}

pub fewer : (n : ℕ) (bs : List Block) → length (others n bs) ≤ length bs
fewer n [] = omega arith
fewer n (b ∷ bs) =
    let h = fewer n bs in
    cond_both (numbered n b) (others n bs) (b ∷ others n bs) (λ xs. length xs ≤ length (b ∷ bs)) (λ _. omega arith) (λ _. omega arith)

-- nothing unfit: nothing below, and the row itself is fit
pub none_unfit : (fit : Bool) (unfit : Option ℕ) → front_unfit fit unfit ≡ None → (unfit ≡ None) × (fit ≡ true)
none_unfit true None e = (refl, refl)
none_unfit false None e = absurd (let z : ◌≡◌ {A = ℕ} 0 1 = cc in let n : ⊥ = omega arith in n)
none_unfit fit (Some r) e = absurd (let z : ◌≡◌ {A = ℕ} 0 1 = cc in let n : ⊥ = omega arith in n)

-- nothing full: nothing below, and the queue does not hold 32
pub none_full : (b : Bool) (full : Option ℕ) → cond b (Some 0) (deeper full) ≡ None → b ≡ false
none_full true full e = absurd (let z : ◌≡◌ {A = ℕ} 0 1 = cc in let n : ⊥ = omega arith in n)
none_full false full e = refl

-- a queue that does not hold 32 has room
pub room_left : (q : Queue) → eqb (length (queued q)) capacity ≡ false → length (queued q) < capacity
room_left q e =
    let n = eqb-false (length (queued q)) capacity e in
    let l = length-take q.count q.blocks in
    let f = q.few in
    elim (cases_lt (length (queued q)) capacity) [
      | inl h ↦ h
      | inr h ↦ absurd (n (omega arith))
    ]

module _ (D : ℕ) (leaves : List ℕ) (before after : Row) (n new : ℕ) (arrives : Option Block) (flushes : List ℕ)
    (o : InOrder D leaves before) (l : n < length leaves) (fits : new < 2 ^ D) (room : length before.queue < capacity)
    (is : IfSome arrives (λ b. (b.number.0 ≡ n) × (b.leaf.0 ≡ new)))
    (became : after ≡ second_half D arrives flushes (fetched D n (get_or leaves n 0) before)) where
  first : FirstHalf D leaves n new before
  first = order_kept.of_first_half D leaves n new before o l fits

  may : (a : Option Block) → IfSome a (λ b. (b.number.0 ≡ n) × (b.leaf.0 ≡ new)) → MayArrive (set leaves n new) n a
  may None h = tt
  may (Some b) h = (h.0, h.1 ∙ sym (get_or-set_same leaves n new 0 l))

  second : SecondHalf D (set leaves n new) n arrives flushes (fetched D n (get_or leaves n 0) before)
  second =
      let f = fewer n before.queue in
      order_kept.of_second_half D (set leaves n new) n arrives flushes (fetched D n (get_or leaves n 0) before) first.ordered
      (rw (length-set leaves n new) l) first.gone (omega arith) (may arrives is)

  pub kept_order : InOrder D (set leaves n new) after
  kept_order = rw became second.ordered

  pub kept_holds : content n after ≡ option_map (λ b. b.words) arrives
  kept_holds = ap (content n) became ∙ second.holds

  pub kept_others : (m : ℕ) → (m ≡ n → ⊥) → content m after ≡ content m before
  kept_others m e = ap (content m) became ∙ (second.same m e ∙ first.same m e)

  -- what the fetch finds is what the row holds
  pub kept_found : option_map (λ b. b.words) (found D n (get_or leaves n 0) before) ≡ content n before
  kept_found = ap (option_map (λ b. b.words)) first.answer
