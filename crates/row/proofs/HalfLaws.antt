-- What the halves of a request leave of the log's room and the queue's, and what may arrive.
use Rattle.std.proofs.Common.{◌≡◌, ℕ, ◌+◌, ◌*◌, ◌<◌, ◌≤◌, Bool, true, not, eqb, List, [], ◌∷◌, ◌++◌, length, Some, None, Option, refl, ap, ◌∙◌, inl, inr, arith}
use Rattle.std.proofs.lemmas.Bool.{cases_lt, cond_both, eq-eqb}
use Rattle.std.proofs.lemmas.List.{length-append, length-take}
use Rattle.tree.specs.declared.block.Block.{Block}
use Rattle.tree.specs.declared.queue.Queue.{Queue}
use Rattle.tree.specs.Blocks.{capacity, numbered, others}
use Rattle.tree.specs.Entries.{dequeue_entries, fetch_entries}
use Rattle.tree.specs.Paths.{is_leaf}
use Rattle.tree.specs.Queues.{queued}
use Rattle.tree.proofs.Counts.{entry_counts}
use Rattle.row.specs.Requests.{ArrivesAs}
use Rattle.row.specs.Trials.{arrival_fits}

pub fetch_long : (D m : ℕ) (log one : List ℕ) → one ≡ log ++ fetch_entries D m → length one ≡ length log + (2 * D + 2)
fetch_long D m log one e = ap length e ∙ length-append log (fetch_entries D m) ∙ ap (λ k. length log + k) (entry_counts.fetch D m)

pub dequeue_long : (D m : ℕ) (log one : List ℕ) → one ≡ log ++ dequeue_entries D m → length one ≡ length log + (2 * D + 4)
dequeue_long D m log one e =
    ap length e ∙ length-append log (dequeue_entries D m) ∙ ap (λ k. length log + k) (entry_counts.dequeue D m)

-- a fetch leaves no more blocks in the queue than there were
pub fewer : (n : ℕ) (bs : List Block) → length (others n bs) ≤ length bs
fewer n [] = omega arith
fewer n (b ∷ bs) =
    let h = fewer n bs in
    cond_both (numbered n b) (others n bs) (b ∷ others n bs) (λ xs. length xs ≤ length (b ∷ bs)) (λ _. omega arith) (λ _. omega arith)

-- a queue that is not full has room
pub room_left : (q : Queue) (full : Bool) → full ≡ eqb (length (queued q)) capacity → not full ≡ true → length (queued q) < capacity
room_left q full e h =
    let l = length-take q.count q.blocks in
    let f = q.few in
    elim (cases_lt (length (queued q)) capacity) [
      | inl less ↦ less
      | inr more ↦
          let it_is : length (queued q) ≡ capacity = omega arith in
          absurd (let n : ⊥ = cc (e, h, eq-eqb (length (queued q)) capacity it_is) in n)
    ]

-- what arrives has a leaf of the row
pub arrives_fit : (D n leaf : ℕ) (ws : Option (List ℕ)) (a : Option Block) → is_leaf D leaf ≡ true → ArrivesAs n leaf ws a
    → arrival_fits D a ≡ true
arrives_fit D n leaf None None l h = refl
arrives_fit D n leaf None (Some b) l h = absurd h
arrives_fit D n leaf (Some ws) None l h = absurd h
arrives_fit D n leaf (Some ws) (Some b) l h = rw h.1 l
