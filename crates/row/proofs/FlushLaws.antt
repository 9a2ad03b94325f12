-- A flush that has come down to layer k, with the bucket of that layer in hand, and one layer more.
use Rattle.std.proofs.Common.{◌≡◌, ℕ, suc, ◌+◌, ◌-◌, ◌*◌, ◌<◌, ◌≤◌, true, List, [], ◌∷◌, ◌++◌, length, Some, None, Option, sym, refl, ap, ◌∙◌, add-one, arith}
use Rattle.std.proofs.lemmas.List.{append_assoc, get_or-set_same, length-append, set-get_or, set-set}
use Rattle.std.proofs.lemmas.Bool.{and_from, cond-true, le-leb}
use Rattle.tree.specs.declared.place.Place.{Place}
use Rattle.tree.specs.Choice.{chosen, moved_child, moved_in, moved_parent, moving}
use Rattle.tree.specs.Entries.{flush_entries, flush_to}
use Rattle.tree.specs.Paths.{is_leaf, path}
use Rattle.tree.specs.Places.{emptied}
use Rattle.tree.proofs.Counts.{length-flush_to}
use Rattle.tree.proofs.PathLaws.{path_positive, path_rises}
use Rattle.steps.specs.Steps.{Buckets, bucket, flushed_to, moved_by, with_bucket}
use Rattle.steps.proofs.Buckets.{bucket_other}

-- The buckets from b to c, the log from l to k. The bucket in hand is not written yet: with it in its place, c is the flush
-- so far.
pub record PathFlushed (D m layer : ℕ) (b c : Buckets) (l k : List ℕ) (hand : List Place) : Type 0 where
  pub holds : with_bucket c (path D m layer) hand ≡ flushed_to D m b layer
  pub enters : k ≡ l ++ flush_to D m layer

-- the root has been read
pub flush_none : (D m v : ℕ) (b : Buckets) {c : Buckets} (l : List ℕ) {k : List ℕ} {hand : List Place} → v ≡ path D m 0 → c ≡ b
    → hand ≡ bucket b v → k ≡ l ++ v ∷ [] → PathFlushed D m 0 b c l k hand
flush_none D m v b l is e f enters = record { holds = rw (e, f, is) (set-get_or b (path D m 0 - 1) []); enters = rw is at enters }

-- the last bucket has been written
pub flush_all : (D m v : ℕ) (b c d : Buckets) (l k j : List ℕ) (hand : List Place) → v ≡ path D m D → PathFlushed D m D b c l k hand
    → d ≡ with_bucket c v hand → j ≡ k ++ v ∷ [] → (d ≡ flushed_to D m b D) × (j ≡ l ++ flush_entries D m)
flush_all D m v b c d l k j hand is so holds enters = (
  holds ∙ (ap (λ x. with_bucket c x hand) is ∙ so.holds),
  enters ∙ rw (is, so.enters) (append_assoc l (flush_to D m D) (path D m D ∷ [])),
)

-- how many entries there are so far
pub flush_used : (D m layer : ℕ) (b c : Buckets) (l k : List ℕ) (hand : List Place) → PathFlushed D m layer b c l k hand
    → length k ≡ length l + (2 * layer + 1)
flush_used D m layer b c l k hand so =
    ap length so.enters ∙ (length-append l (flush_to D m layer) ∙ ap (λ n. length l + n) (length-flush_to D m layer))

-- a block moves between two buckets, of which the upper one was in hand
moves : (c : Buckets) (u v : ℕ) (hand : List Place) (o : Option ℕ) → 1 ≤ u → u ≤ length c → 1 ≤ v → (u ≡ v → ⊥)
    → with_bucket (with_bucket c u (emptied hand o)) v (moved_in hand (bucket c v) o) ≡ moved_by (with_bucket c u hand) u v o
moves c u v hand None hu lu hv n =
    ap (with_bucket (with_bucket c u hand) v) (sym (bucket_other c u v hand hu hv n))
    ∙ set-get_or (with_bucket c u hand) (v - 1) []
moves c u v hand (Some i) hu lu hv n =
    let lt : u - 1 < length c = omega arith in
    rw (bucket_other c u v hand hu hv n, get_or-set_same c (u - 1) hand [] lt, set-set c (u - 1) hand _)

module _ (D m layer : ℕ) (b c d : Buckets) (l k j : List ℕ) (hand next : List Place) (leaf : is_leaf D m ≡ true) (below : layer < D)
    (there : path D m layer ≤ length c) (so : PathFlushed D m layer b c l k hand) where
  flush_next : next ≡ moved_child D m (suc layer) hand (bucket c (path D m (suc layer)))
      → d ≡ with_bucket c (path D m layer) (moved_parent D m (suc layer) hand (bucket c (path D m (suc layer))))
      → j ≡ k ++ path D m (suc layer) ∷ path D m layer ∷ []
      → PathFlushed D m (suc layer) b d l j next
  flush_next hands holds enters =
      let u = path D m layer in
      let v = path D m (suc layer) in
      let low = path_positive D m layer in
      let lower = path_positive D m (suc layer) in
      let rises = path_rises D m layer (suc layer) (omega arith) below in
      let other : u ≡ v → ⊥ = λ e. omega arith in
      let lt : u - 1 < length c = omega arith in
      let F = with_bucket c u hand in
      let o = moving D m (suc layer) hand (bucket c v) in
      let free : o ≡ chosen D m (suc layer) hand (bucket c v) =
      cond-true _ _ _ (and_from (is_leaf D m) _ leaf (le-leb (suc layer) D below)) in
      let own : bucket F u ≡ hand = get_or-set_same c (u - 1) hand [] lt in
      let child : bucket F v ≡ bucket c v = bucket_other c u v hand low lower other in
      let in_row : o ≡ chosen D m (suc layer) (bucket F u) (bucket F v) = free ∙ rw (own, child) refl in
      record {
        holds =
            ap (λ x. with_bucket x v next) holds
            ∙ (ap (with_bucket (with_bucket c u (emptied hand o)) v) hands
            ∙ (moves c u v hand o low there lower other
            ∙ (ap (moved_by F u v) in_row
            ∙ ap (λ x. moved_by x u v (chosen D m (suc layer) (bucket x u) (bucket x v))) so.holds)));
        enters = enters ∙ (ap (λ x. x ++ v ∷ u ∷ []) so.enters ∙ append_assoc l (flush_to D m layer) (v ∷ u ∷ []));
      }

  pub flush_more : next ≡ moved_child D m (layer + 1) hand (bucket c (path D m (layer + 1)))
      → d ≡ with_bucket c (path D m layer) (moved_parent D m (layer + 1) hand (bucket c (path D m (layer + 1))))
      → j ≡ k ++ path D m (layer + 1) ∷ path D m layer ∷ []
      → PathFlushed D m (layer + 1) b d l j next
  flush_more = rw (add-one layer) flush_next
