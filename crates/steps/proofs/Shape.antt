-- A step keeps the number of buckets, and how many places each has.
use Rattle.std.proofs.Common.{◌≡◌, ℕ, zero, suc, List, [], ◌∷◌, map, length, get_or, set, Some, None, Option, sym, refl, ap, ◌∙◌}
use lib.ListN.{get_or-map}
use Rattle.std.specs.List.{AllByRecursion}
use Rattle.std.proofs.ByRecursion.{All-map}
use Rattle.std.proofs.lemmas.List.{length-map, length-set, map-set, set-get_or}
use Rattle.tree.specs.declared.block.Block.{Block}
use Rattle.tree.specs.declared.place.Place.{Place}
use Rattle.tree.specs.Places.{emptied, filled, entry_place, empty_place, place_for}
use Rattle.steps.specs.Steps.{Buckets, Row, bucket, cleared_to, arriving, put_back_at, put_back_from, put_back, moved_by, flushed_to, dequeued, dequeued_all}
use Rattle.steps.specs.Laws.{KeepsShape, StepsKeepShape}

-- how many places each bucket has
abbrev sizes : Buckets → List ℕ
sizes bs = map length bs

all_of_map : {X Y : Type 0} (P : Y → Type 0) (f : X → Y) (xs : List X) → AllByRecursion P (map f xs) → AllByRecursion (λ x. P (f x)) xs
all_of_map P f [] h = h
all_of_map P f (x ∷ xs) h = (h.0, all_of_map P f xs h.1)

keeps : (before after : Row) → sizes after.buckets ≡ sizes before.buckets → KeepsShape before after
keeps before after e =
    record {
      count = sym (length-map after.buckets length) ∙ ap length e ∙ length-map before.buckets length;
      four = λ h. all_of_map (λ n. n ≡ 4) length after.buckets (rw e (All-map (λ n. n ≡ 4) length before.buckets h));
    }

-- bucket i gets as many places as it had
sizes_set : (cs bs : Buckets) (i : ℕ) (ps : List Place) → sizes cs ≡ sizes bs → length ps ≡ length (get_or bs i [])
    → sizes (set cs i ps) ≡ sizes bs
sizes_set cs bs i ps e f = map-set length cs i ps ∙ rw (e, f, ← get_or-map length bs i [], set-get_or)

length-emptied : (ps : List Place) (o : Option ℕ) → length (emptied ps o) ≡ length ps
length-emptied ps None = refl
length-emptied ps (Some i) = length-set ps i empty_place

length-filled : (ps : List Place) (p : Place) (o : Option ℕ) → length (filled ps p o) ≡ length ps
length-filled ps p None = refl
length-filled ps p (Some i) = length-set ps i p

sizes_cleared : (D n m : ℕ) (bs : Buckets) (k : ℕ) → sizes (cleared_to D n m bs k) ≡ sizes bs
sizes_cleared D n m bs zero = refl
sizes_cleared D n m bs (suc k) =
    sizes_set _ (cleared_to D n m bs k) _ _ refl (length-emptied _ _) ∙ sizes_cleared D n m bs k

sizes_moved : (bs : Buckets) (u v : ℕ) (o : Option ℕ) → sizes (moved_by bs u v o) ≡ sizes bs
sizes_moved bs u v None = refl
sizes_moved bs u v (Some i) =
    sizes_set _ bs _ _ (sizes_set bs bs _ _ refl (length-set (bucket bs u) i empty_place)) (length-filled _ _ _)

sizes_flushed : (D m : ℕ) (bs : Buckets) (k : ℕ) → sizes (flushed_to D m bs k) ≡ sizes bs
sizes_flushed D m bs zero = refl
sizes_flushed D m bs (suc k) = sizes_moved (flushed_to D m bs k) _ _ _ ∙ sizes_flushed D m bs k

sizes_arriving : (b : Option Block) (row : Row) → sizes (arriving b row).buckets ≡ sizes row.buckets
sizes_arriving None row = refl
sizes_arriving (Some b) row = refl

sizes_put_back : (bs : Buckets) (q : List Block) → sizes (put_back_from bs q).buckets ≡ sizes bs
sizes_put_back bs [] = refl
sizes_put_back bs (b ∷ rest) = at (entry_place b (bucket bs 1))
  where
    at : (o : Option ℕ) → sizes (put_back_at bs b rest o).buckets ≡ sizes bs
    at None = refl
    at (Some i) = sizes_set bs bs 0 _ refl (length-set (bucket bs 1) i (place_for b))

sizes_dequeued : (D m : ℕ) (row : Row) → sizes (dequeued D m row).buckets ≡ sizes row.buckets
sizes_dequeued D m row = sizes_flushed D m (put_back row).buckets D ∙ sizes_put_back row.buckets row.queue

sizes_dequeues : (D : ℕ) (ms : List ℕ) (row : Row) → sizes (dequeued_all D ms row).buckets ≡ sizes row.buckets
sizes_dequeues D [] row = refl
sizes_dequeues D (m ∷ ms) row = sizes_dequeues D ms (dequeued D m row) ∙ sizes_dequeued D m row

pub steps_keep_shape : StepsKeepShape
steps_keep_shape =
    record {
      fetch = λ D n m row. keeps row _ (sizes_cleared D n m row.buckets (suc D));
      arrive = λ b row. keeps row _ (sizes_arriving b row);
      of_put_back = λ row. keeps row _ (sizes_put_back row.buckets row.queue);
      flush = λ D m row. keeps row _ (sizes_flushed D m row.buckets D);
      dequeue = λ D m row. keeps row _ (sizes_dequeued D m row);
      of_second_half = λ D b ms row. keeps row _ (sizes_dequeues D ms (arriving b row) ∙ sizes_arriving b row);
    }
