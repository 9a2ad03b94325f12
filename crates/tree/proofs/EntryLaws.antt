-- Which entry stands where in the prescribed lists.
use Rattle.std.proofs.Common.{◌≡◌, ℕ, zero, suc, ◌+◌, ◌-◌, ◌*◌, ◌/◌, ◌%◌, ◌<◌, ◌≤◌, Bool, true, false, cond, ◌&&◌, eqb, leb, ◌⊎◌, List, [], ◌∷◌, ◌++◌, length, get_or, Some, None, Option, sym, refl, ap, ◌∙◌, subst, inl, inr, ⊎_elim, arith}
use Rattle.std.proofs.lemmas.List.{append-nil, get_or_append_left, get_or-append_right, length-append}
use Rattle.std.proofs.lemmas.Bool.{and_from, cases_eq, cases_lt, cond_both, cond-false, cond-true, eq-eqb, eqb-true, false≢true, leb-false, leb-true, ne_eqb}
use Rattle.std.proofs.lemmas.Bool.Decides.{nat_tests}
use Rattle.tree.specs.declared.numbers.BucketNumber.{BucketNumber}
use Rattle.tree.specs.declared.numbers.Leaf.{Leaf}
use Rattle.tree.specs.declared.path.Path.{Path}
use Rattle.tree.specs.Entries.{Entry, are_leaves, dequeue_entries, fetch_entries, fetch_to, flush_entries, flush_layer, flush_to, layer_in, request_entries}
use Rattle.tree.specs.Paths.{is_leaf, on_path, path}
use Rattle.tree.proofs.Counts.{dequeue_long, fetch_long, length-fetch_to, flush_long, length-flush_to}

-- the path that was made of a depth and a leaf
abbrev Made : ℕ → Leaf → Path → Type 0
Made D m p = (is_leaf D m.0 ≡ true) × (p.depth ≡ D) × (p.leaf ≡ m)

-- an entry that is the bucket at a layer of the path
pub entry_from : (D : ℕ) (m : Leaf) (d k : ℕ) (es : List ℕ) (r : Option BucketNumber) → is_leaf D m.0 ≡ true → r ≡ on_path D m d
    → (d ≤ D → (k < length es) × (get_or es k 0 ≡ path D m.0 d)) → (D < d → length es ≤ k)
    → Entry true es k r
entry_from D m d k es r f e hit miss =
    subst (λ (x : Option BucketNumber). Entry true es k x) (sym e) (go (is_leaf D m.0) f (leb d D) refl)
  where
    go : (b : Bool) → b ≡ true → (c : Bool) → leb d D ≡ c → Entry true es k (cond (b && c) (Some (record { 0 = path D m.0 d })) None)
    go true t true l = let h = hit (leb-true d D l) in (refl, h.0, sym h.1)
    go true t false l = λ _. miss (leb-false d D l)
    go false t c l = absurd (false≢true t)

-- two more at the end of a list whose elements are known
two_more : (f : ℕ → ℕ) (xs : List ℕ) (n a b k : ℕ) → length xs ≡ n → (k < n → get_or xs k 0 ≡ f k) → a ≡ f n → b ≡ f (n + 1)
    → k < n + 2 → get_or (xs ++ a ∷ b ∷ []) k 0 ≡ f k
two_more f xs n a b k long known p q h = ⊎_elim below above (cases_lt k n)
  where
    below : k < n → get_or (xs ++ a ∷ b ∷ []) k 0 ≡ f k
    below l = get_or_append_left xs (a ∷ b ∷ []) 0 k (omega arith) ∙ known l

    last : (j : ℕ) → k - n ≡ j → j < 2 → n ≤ k → get_or (a ∷ b ∷ []) j 0 ≡ f k
    last zero e l g = p ∙ ap f (let x : n ≡ k = omega arith in x)
    last (suc zero) e l g = q ∙ ap f (let x : n + 1 ≡ k = omega arith in x)
    last (suc (suc j)) e l g = absurd (let z : ⊥ = omega arith in z)

    above : n ≤ k → get_or (xs ++ a ∷ b ∷ []) k 0 ≡ f k
    above l = get_or-append_right xs (a ∷ b ∷ []) n k 0 long l ∙ last (k - n) refl (omega arith) l

fetch_at : (D m K k : ℕ) → k < 2 * K → get_or (fetch_to D m K) k 0 ≡ path D m (k / 2)
fetch_at D m zero k h = absurd (let z : ⊥ = omega arith in z)
fetch_at D m (suc K) k h =
    two_more (λ j. path D m (j / 2)) (fetch_to D m K) (2 * K) (path D m K) (path D m K) k (length-fetch_to D m K)
    (λ l. fetch_at D m K k l) (ap (path D m) (let e : K ≡ 2 * K / 2 = omega arith in e))
    (ap (path D m) (let e : K ≡ (2 * K + 1) / 2 = omega arith in e)) (omega arith)

layer_odd : (K : ℕ) → suc K ≡ layer_in (2 * K + 1)
layer_odd K = grind (arith, nat_tests)

layer_even : (K : ℕ) → K ≡ layer_in (2 * K + 1 + 1)
layer_even K = grind (arith, nat_tests)

flush_at : (D m K k : ℕ) → k < 2 * K + 1 → get_or (flush_to D m K) k 0 ≡ path D m (layer_in k)
flush_at D m zero k h = let e : k ≡ 0 = omega arith in subst (λ (j : ℕ). get_or (flush_to D m zero) j 0 ≡ path D m (layer_in j)) (sym e) refl
flush_at D m (suc K) k h =
    two_more (λ j. path D m (layer_in j)) (flush_to D m K) (2 * K + 1) (path D m (suc K)) (path D m K) k (length-flush_to D m K)
    (λ l. flush_at D m K k l) (ap (path D m) (layer_odd K)) (ap (path D m) (layer_even K)) (omega arith)

-- an entry of a fetch, and of a flush
pub fetch_entry : (D : ℕ) (m : Leaf) (k : ℕ) (r : Option BucketNumber) → is_leaf D m.0 ≡ true → r ≡ on_path D m (k / 2)
    → Entry true (fetch_entries D m.0) k r
fetch_entry D m k r f e =
    let long = fetch_long D m.0 in
    entry_from D m (k / 2) k (fetch_entries D m.0) r f e
    (λ h. (omega arith, fetch_at D m.0 (suc D) k (omega arith))) (λ h. omega arith)

layer_ways : (D k : ℕ) → k ≤ 2 * D + 1
    → ((k ≡ 2 * D + 1) × (flush_layer D k ≡ D)) ⊎ ((k < 2 * D + 1) × (flush_layer D k ≡ layer_in k) × (layer_in k ≤ D))
layer_ways D k h = ⊎_elim (λ e. inl (e, cond-true _ D (layer_in k) (eq-eqb k (2 * D + 1) e))) (λ n. inr (let l : k < 2 * D + 1 = omega arith in (l, cond-false _ D (layer_in k) (ne_eqb k (2 * D + 1) n), inner l))) (cases_eq k (2 * D + 1))
  where
    inner : k < 2 * D + 1 → layer_in k ≤ D
    inner l = cond_both (eqb (k % 2) 1) (k / 2 + 1) (k / 2 - 1) (λ x. x ≤ D) (λ e. let o : k % 2 ≡ 1 = eqb-true _ _ e in omega arith) (λ e. omega arith)

pub flush_entry : (D : ℕ) (m : Leaf) (k d : ℕ) (r : Option BucketNumber) → is_leaf D m.0 ≡ true → r ≡ on_path D m d
    → d ≡ flush_layer D k → k ≤ 2 * D + 1 → Entry true (flush_entries D m.0) k r
flush_entry D m k d r f e is h = ⊎_elim last inside (layer_ways D k h)
  where
    long : length (flush_to D m.0 D) ≡ 2 * D + 1
    long = length-flush_to D m.0 D

    last : (k ≡ 2 * D + 1) × (flush_layer D k ≡ D) → Entry true (flush_entries D m.0) k r
    last w =
        entry_from D m d k (flush_entries D m.0) r f e
        (λ _. (
          let l = flush_long D m.0 in omega arith,
          ap (λ n. get_or (flush_entries D m.0) n 0) w.0
              ∙ (get_or-append_right (flush_to D m.0 D) (path D m.0 D ∷ []) (2 * D + 1) (2 * D + 1) 0 long (omega arith)
              ∙ (ap (λ n. get_or (path D m.0 D ∷ []) n 0) (let z : 2 * D + 1 - (2 * D + 1) ≡ 0 = omega arith in z)
              ∙ ap (path D m.0) (sym (is ∙ w.1)))),
        ))
        (λ b. absurd (let z : ⊥ = omega arith in z))

    inside : (k < 2 * D + 1) × (flush_layer D k ≡ layer_in k) × (layer_in k ≤ D) → Entry true (flush_entries D m.0) k r
    inside w =
        entry_from D m d k (flush_entries D m.0) r f e
        (λ _. (
          let l = flush_long D m.0 in omega arith,
          get_or_append_left (flush_to D m.0 D) (path D m.0 D ∷ []) 0 k (omega (arith, long, w.0))
              ∙ (flush_at D m.0 D k w.0 ∙ ap (path D m.0) (sym (is ∙ w.1))),
        ))
        (λ b. absurd (let z : ⊥ = omega arith in z))

-- an entry of a list is one of the list with more behind it, or in front
entry_left : (xs ys : List ℕ) (k : ℕ) (r : Option BucketNumber) → k < length xs → Entry true xs k r → Entry true (xs ++ ys) k r
entry_left xs ys k None h e = λ f. let l = e f in absurd (let z : ⊥ = omega arith in z)
entry_left xs ys k (Some v) h e =
    let l = length-append xs ys in
    (e.0, omega arith, e.2 ∙ sym (get_or_append_left xs ys 0 k h))

entry_right : (xs ys : List ℕ) (n k : ℕ) (r : Option BucketNumber) → length xs ≡ n → n ≤ k → Entry true ys (k - n) r
    → Entry true (xs ++ ys) k r
entry_right xs ys n k None long h e = λ f. let l = e f in let a = length-append xs ys in omega arith
entry_right xs ys n k (Some v) long h e =
    let l = length-append xs ys in
    (e.0, omega (arith, e.1), e.2 ∙ sym (get_or-append_right xs ys n k 0 long h))

-- an entry of a tree that has the leaf is one where there is such a leaf
pub entry_fits : (b : Bool) (es : List ℕ) (k : ℕ) (r : Option BucketNumber) → b ≡ true → Entry true es k r → Entry b es k r
entry_fits b es k r t e = subst (λ x. Entry x es k r) (sym t) e

-- an entry along a path that was made of a depth and a leaf is one along them
pub entry_along : (entries : ℕ → ℕ → List ℕ) (p : Path) (D : ℕ) (m : Leaf) (k : ℕ) (r : Option BucketNumber)
    → Made D m p → Entry true (entries p.depth p.leaf.0) k r → Entry true (entries D m.0) k r
entry_along entries p D m k r made e =
    subst (λ x. Entry true (entries x m.0) k r) made.1 (subst (λ (x : Leaf). Entry true (entries p.depth x.0) k r) made.2 e)

module _ (D : ℕ) (s a b : Leaf) (p q t : Path) (along : Made D s p) (first : Made D a q) (second : Made D b t) (k : ℕ) (r : Option BucketNumber) where
  whole : Entry true (request_entries D s.0 (a.0 ∷ b.0 ∷ [])) k r → Entry (are_leaves D (s ∷ a ∷ b ∷ [])) (request_entries D s.0 (a.0 ∷ b.0 ∷ [])) k r
  whole = entry_fits _ _ k r (and_from _ _ along.0 (and_from _ _ first.0 (and_from _ _ second.0 refl)))

  -- the entries of a request, part by part
  pub in_fetch : k < 2 * D + 2 → Entry true (fetch_entries p.depth p.leaf.0) k r
      → Entry (are_leaves D (s ∷ a ∷ b ∷ [])) (request_entries D s.0 (a.0 ∷ b.0 ∷ [])) k r
  in_fetch h e =
      let l = fetch_long D s.0 in
      whole (entry_left (fetch_entries D s.0) _ k r (omega arith) (entry_along fetch_entries p D s k r along e))

  pub in_first : 2 * D + 2 ≤ k → k - (2 * D + 2) < 2 * D + 4
      → Entry true (dequeue_entries q.depth q.leaf.0) (k - (2 * D + 2)) r
      → Entry (are_leaves D (s ∷ a ∷ b ∷ [])) (request_entries D s.0 (a.0 ∷ b.0 ∷ [])) k r
  in_first h i e =
      let l = dequeue_long D a.0 in
      let j = k - (2 * D + 2) in
      whole (entry_right (fetch_entries D s.0) _ (2 * D + 2) k r (fetch_long D s.0) h
      (entry_left (dequeue_entries D a.0) _ j r (omega arith) (entry_along dequeue_entries q D a j r first e)))

  pub in_second : 2 * D + 2 ≤ k → 2 * D + 4 ≤ k - (2 * D + 2)
      → Entry true (dequeue_entries t.depth t.leaf.0) (k - (2 * D + 2) - (2 * D + 4)) r
      → Entry (are_leaves D (s ∷ a ∷ b ∷ [])) (request_entries D s.0 (a.0 ∷ b.0 ∷ [])) k r
  in_second h i e =
      let j = k - (2 * D + 2) - (2 * D + 4) in
      let es = dequeue_entries D b.0 in
      whole (entry_right (fetch_entries D s.0) _ (2 * D + 2) k r (fetch_long D s.0) h
      (entry_right (dequeue_entries D a.0) _ (2 * D + 4) (k - (2 * D + 2)) r (dequeue_long D a.0) i
      (subst (λ (xs : List ℕ). Entry true xs j r) (sym (append-nil es)) (entry_along dequeue_entries t D b j r second e))))
