-- What a call tells that a row and the map below it have not refused.
use Rattle.std.proofs.Common.{◌≡◌, ℕ, suc, ◌+◌, ◌*◌, ◌^◌, ◌<◌, ◌≤◌, true, eqb, ltb, leb, List, [], ◌∷◌, length, get_or, drop, None, arith}
use Rattle.std.proofs.lemmas.Bool.{and_parts, eqb-true, leb-true, ltb-true}
use Rattle.store.specs.declared.interface.BucketStore.{Ghosts as StoreMeaning}
use Rattle.tree.specs.declared.queue.Queue.{Queue}
use Rattle.tree.specs.Blocks.{capacity}
use Rattle.tree.specs.Entries.{request_moves}
use Rattle.tree.specs.Queues.{queued}
use Rattle.posmap.specs.declared.interface.PositionMap.{Ghosts as MapMeaning}
use Rattle.posmap.specs.Maps.{MapRow, coins_below, leaf_refusal, log_refusal, naming, swap_refusal, unless, widest_leaf}
use Rattle.front.specs.Fronts.{front_full, rows_with, unfit_with}
use Rattle.front.proofs.Fits.{Fits, it_fits, none_named, or-none, request_passed, unless-none}
use Rattle.front.proofs.Kept.{none_full, room_left}

pub three : (D : ℕ) (coins : List ℕ) → 3 ≤ length coins → coins_below D 3 coins ≡ true
    → (get_or coins 0 0 < 2 ^ D) × (get_or coins 1 0 < 2 ^ D) × (get_or coins 2 0 < 2 ^ D)
three D [] l e = absurd (let n : ⊥ = omega arith in n)
three D (x ∷ []) l e = absurd (let n : ⊥ = omega arith in n)
three D (x ∷ y ∷ []) l e = absurd (let n : ⊥ = omega arith in n)
three D (x ∷ y ∷ z ∷ coins) l e =
    let a = and_parts (ltb x (2 ^ D)) _ e in
    let b = and_parts (ltb y (2 ^ D)) _ a.1 in
    let c = and_parts (ltb z (2 ^ D)) _ b.1 in
    (ltb-true x (2 ^ D) a.0, ltb-true y (2 ^ D) b.0, ltb-true z (2 ^ D) c.0)

module _ {S P F : Type 0} (store : StoreMeaning S) (map : MapMeaning P F) (most : ℕ) (s : S) (b : P) (q : Queue) (D : ℕ)
    (coins : List ℕ) where
  abbrev all : List MapRow
  all = rows_with store map s b D

  -- a request for number i of these leaves, for which the map is asked for number n
  pub record RequestPassed (leaves : List ℕ) (i n : ℕ) : Type 0 where
    pub whole_fit : unfit_with store map most s b D ≡ None
    pub itself : Fits most D (length (store.buckets s)) (length (map.leaves b)) (length (map.rows b))
    pub there : i < length leaves
    pub many : 3 ≤ length coins
    pub in_tree : (get_or coins 0 0 < 2 ^ D) × (get_or coins 1 0 < 2 ^ D) × (get_or coins 2 0 < 2 ^ D)
    pub free : length (store.log s) + request_moves D ≤ store.span s
    pub room : length (queued q) < capacity
    pub lower : None ≡ swap_refusal (map.leaves b) (map.rows b) (map.unfit b) (map.full b) n (get_or coins 0 0) (drop 3 coins)

  pub request_passes : (leaves : List ℕ) (i new n : ℕ)
      → (unfit_with store map most s b D ≡ None → i < length leaves → n < length (map.leaves b))
      → None ≡ swap_refusal leaves all (unfit_with store map most s b D) (front_full (queued q) (map.full b)) i new coins
      → RequestPassed leaves i n
  request_passes leaves i new n number e =
      let t1 = or-none (naming 1 (unfit_with store map most s b D)) _ e in
      let t2 = or-none (unless (ltb i (length leaves)) _) _ t1.1 in
      let t5 = or-none (unless (eqb (length coins) (3 * length all)) _) _ t2.1 in
      let t6 = or-none (unless (leb new widest_leaf) _) _ t5.1 in
      let t6a = or-none (leaf_refusal 3 0 all coins) _ t6.1 in
      let t7 = or-none (log_refusal request_moves 0 all) _ t6a.1 in
      let own6 = or-none (unless (coins_below D 3 coins) _) _ t6a.0 in
      let own7 = or-none (unless (leb (length (store.log s) + request_moves D) (store.span s)) _) _ t7.0 in
      let fit = none_named 1 (unfit_with store map most s b D) t1.0 in
      let there = ltb-true i (length leaves) (unless-none _ _ t2.0) in
      let long : length coins ≡ 3 * suc (length (map.rows b)) = eqb-true _ _ (unless-none _ _ t5.0) in
      let many : 3 ≤ length coins = omega arith in
      record {
        whole_fit = fit;
        itself = it_fits store map most s b D coins fit;
        there = there;
        many = many;
        in_tree = three D coins many (unless-none _ _ own6.0);
        free = leb-true _ _ (unless-none _ _ own7.0);
        room = room_left q (none_full (eqb (length (queued q)) capacity) (map.full b) (none_named 8 (front_full (queued q) (map.full b)) t7.1));
        lower = request_passed store map most s b D coins fit (queued q) leaves i new there n (number fit there) e;
      }
