-- In a row in order, a fetch of number i along the leaf that the list has for it takes out just the block of that number.
use Rattle.std.proofs.Common.{◌≡◌, ℕ, zero, suc, ◌-◌, ◌<◌, ◌≤◌, ◌⊎◌, List, [], ◌∷◌, ◌++◌, length, get_or, sym, refl, ap, ◌∙◌, subst, inl, inr, arith}
use Rattle.std.specs.List.{flat_map, AllByRecursion}
use Rattle.std.proofs.ByRecursion.{All-append, All-from_get_or}
use Rattle.std.proofs.lemmas.Bool.{cases_eq}
use Rattle.tree.specs.declared.block.Block.{Block}
use Rattle.tree.specs.Blocks.{block_of, others}
use Rattle.tree.specs.Paths.{path}
use Rattle.tree.specs.Places.{blocks_in}
use Rattle.steps.specs.Steps.{Buckets, Row, bucket, fetched, found}
use Rattle.steps.specs.Laws.{ApartEach, OffPath, OnPath, path_blocks, row_blocks}
use Rattle.steps.specs.Order.{InOrder}
use Rattle.steps.proofs.Buckets.{all_at}
use Rattle.steps.proofs.Everywhere.{all_parts, all_each, all_joined, all_with}
use Rattle.steps.proofs.Fetch.{fetch_takes_exactly}
use Rattle.steps.proofs.Lookups.{Lacks, Apart, apart_from, apart_parts, apart_test, finds_itself, others-append, others-none, same_block}
use Rattle.steps.proofs.Rest.{steps_leave_the_rest}
use Rattle.steps.proofs.Shape.{steps_keep_shape}

-- bucket v is one of the first k of the path, or none of them
on_or_off : (D m v k : ℕ) → ((d : ℕ) × (d < k) × (path D m d ≡ v)) ⊎ ((d : ℕ) → d < k → path D m d ≡ v → ⊥)
on_or_off D m v zero = inr (λ d l e. omega arith)
on_or_off D m v (suc k) =
    elim (cases_eq (path D m k) v) [
      | inl e ↦ inl (k, omega arith, e)
      | inr n ↦ elim (on_or_off D m v k) [
        | inl r ↦ inl (r.0, omega arith, r.2)
        | inr f ↦ inr (λ d l e. elim (cases_eq d k) [
          | inl s ↦ n (subst (λ x. path D m x ≡ v) s e)
          | inr s ↦ f d (omega arith) e
        ])
      ]
    ]

-- what holds of the buckets on a path and of those off it holds of each, by its index
on_and_off : (D m : ℕ) (P : ℕ → Type 0) → ((d : ℕ) → d ≤ D → P (path D m d - 1)) → ((v : ℕ) → OffPath D m v → P (v - 1)) → (k : ℕ) → P k
on_and_off D m P on off k =
    let s : suc k - 1 ≡ k = omega arith in
    elim (on_or_off D m (suc k) (suc D)) [
      | inl r ↦ subst P (ap (λ v. v - 1) r.2 ∙ s) (on r.0 (omega arith))
      | inr f ↦ subst P s (off (suc k) (omega arith, λ d l. f d (omega arith)))
    ]

apart_each : (bs : Buckets) → Apart (flat_map blocks_in bs) → ApartEach bs
apart_each [] a = tt
apart_each (ps ∷ bs) a =
    let r = apart_parts (blocks_in ps) (flat_map blocks_in bs) a in
    (apart_test (blocks_in ps) r.0, apart_each bs r.1)

-- each bucket loses its blocks of the number n, so all together do
joined_others : (n : ℕ) (cs bs : Buckets) → length cs ≡ length bs
    → ((k : ℕ) → blocks_in (get_or cs k []) ≡ others n (blocks_in (get_or bs k []))) → flat_map blocks_in cs ≡ others n (flat_map blocks_in bs)
joined_others n [] [] e h = refl
joined_others n [] (b ∷ bs) e h = absurd (let z : ⊥ = omega arith in z)
joined_others n (c ∷ cs) [] e h = absurd (let z : ⊥ = omega arith in z)
joined_others n (c ∷ cs) (b ∷ bs) e h =
    rw (h 0, joined_others n cs bs (omega arith) (λ k. h (suc k))) (sym (others-append n (blocks_in b) (flat_map blocks_in bs)))

-- the blocks of a path are blocks of the buckets
module _ (P : Block → Type 0) (D m : ℕ) (bs : Buckets) where
  path_all : AllByRecursion P (flat_map blocks_in bs) → (k : ℕ) → AllByRecursion P (path_blocks D m bs k)
  path_all a zero = tt
  path_all a (suc k) =
      All-append P (path_blocks D m bs k) _ (path_all a k)
      (all_at [] (λ ps. AllByRecursion P (blocks_in ps)) bs (path D m k - 1) tt (all_each P blocks_in bs a))

  path_each : (d k : ℕ) → d < k → AllByRecursion P (path_blocks D m bs k) → AllByRecursion P (blocks_in (bucket bs (path D m d)))
  path_each d zero l a = absurd (let z : ⊥ = omega arith in z)
  path_each d (suc k) l a =
      let r = all_parts P (path_blocks D m bs k) _ a in
      elim (cases_eq d k) [
        | inl e ↦ subst (λ x. AllByRecursion P (blocks_in (bucket bs (path D m x)))) (sym e) r.1
        | inr n ↦ path_each d k (omega arith) r.0
      ]

module _ (D : ℕ) (leaves : List ℕ) (row : Row) (o : InOrder D leaves row) (i : ℕ) where
  abbrev m : ℕ
  m = get_or leaves i 0

  -- off the path of its leaf the number i stands nowhere
  off_lacks : (v : ℕ) → OffPath D m v → Lacks i (blocks_in (bucket row.buckets v))
  off_lacks v off =
      all_with (λ b. OnPath D b.leaf.0 v) (λ b. b.leaf.0 ≡ get_or leaves b.number.0 0) (λ b. b.number.0 ≡ i → ⊥)
      (λ b on known e.
      off.1 on.1.0 on.1.1 (ap (λ l. path D l on.1.0) (sym (known ∙ ap (λ n. get_or leaves n 0) e)) ∙ on.1.2))
      (blocks_in (bucket row.buckets v)) (o.placed.tree v off.0)
      (all_at [] (λ ps. AllByRecursion (λ b. b.leaf.0 ≡ get_or leaves b.number.0 0) (blocks_in ps)) row.buckets (v - 1) tt
      (all_each _ blocks_in row.buckets (all_parts _ row.queue _ o.known).1))

  bucket_loses : (k : ℕ) → blocks_in (get_or (fetched D i m row).buckets k []) ≡ others i (blocks_in (get_or row.buckets k []))
  bucket_loses =
      on_and_off D m _
      ((fetch_takes_exactly D i m row).path_loses
      (apart_each row.buckets (apart_parts row.queue _ (apart_from _ o.distinct)).1))
      (λ v off. ap blocks_in (steps_leave_the_rest.fetch D i m row v off) ∙ sym (others-none i _ (off_lacks v off)))

  pub fetched_blocks : row_blocks (fetched D i m row) ≡ others i (row_blocks row)
  fetched_blocks =
      ap (λ x. others i row.queue ++ x)
      (joined_others i (fetched D i m row).buckets row.buckets (steps_keep_shape.fetch D i m row).count bucket_loses)
      ∙ sym (others-append i row.queue (flat_map blocks_in row.buckets))

  -- where the path lacks the number i, so do all buckets
  tree_lacks : Lacks i (path_blocks D m row.buckets (suc D)) → Lacks i (flat_map blocks_in row.buckets)
  tree_lacks h =
      all_joined _ blocks_in row.buckets
      (All-from_get_or _ row.buckets []
      (λ k _. on_and_off D m (λ j. Lacks i (blocks_in (get_or row.buckets j [])))
      (λ d l. path_each _ D m row.buckets d (suc D) (omega arith) h) off_lacks k))

  pub found_first : found D i m row ≡ block_of i (row_blocks row)
  found_first =
      let itself = all_parts _ row.queue _ (finds_itself i (row_blocks row) (apart_from _ o.distinct)) in
      (fetch_takes_exactly D i m row).answers
      ∙ same_block i (path_blocks D m row.buckets (suc D) ++ row.queue) (row_blocks row)
      (All-append _ _ row.queue (path_all _ D m row.buckets itself.1 (suc D)) itself.0)
      (λ lacks.
      let r = all_parts _ (path_blocks D m row.buckets (suc D)) row.queue lacks in
      All-append _ row.queue _ r.1 (tree_lacks r.0))
