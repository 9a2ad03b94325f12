-- What a request tells that row and map have not refused from the coins on.
use Rattle.std.proofs.Common.{◌≡◌, ℕ, ◌+◌, ◌^◌, ◌<◌, ◌≤◌, Bool, true, false, cond, not, eqb, leb, List, length, get_or, drop, None, Some, Option, refl, ap}
use Rattle.std.proofs.lemmas.Bool.{and_parts, leb-true}
use Rattle.store.specs.declared.interface.BucketStore.{Ghosts as StoreMeaning}
use Rattle.tree.specs.Blocks.{capacity}
use Rattle.tree.specs.Entries.{request_moves}
use Rattle.tree.specs.Paths.{is_depth}
use Rattle.tree.specs.Queues.{queued}
use Rattle.posmap.specs.declared.interface.PositionMap.{Ghosts as MapMeaning}
use Rattle.posmap.specs.Maps.{Card, or_else, swap_refusal, unless}
use Rattle.front.specs.declared.front.Front.{Front}
use Rattle.row.specs.Trials.{is_fit}
use Rattle.front.specs.Fronts.{below_first, coins_fit, drain_refusal_from, drain_refused, first_card, own, own_request, raised, request_refusal_from, request_refused, unfit_of}
use Rattle.front.proofs.Fits.{it_fits, no_card, or-none, unless-none}
use Rattle.front.proofs.Kept.{room_left}
use Rattle.front.proofs.Passed.{three}

cond_some : (b : Bool) (x y : Card) → None ≡ cond b (Some x) (Some y) → ⊥
cond_some true x y e = no_card e
cond_some false x y e = no_card e

first_none : (a b : Option Card) → None ≡ first_card a b → (None ≡ a) × (None ≡ b)
first_none a None e = (e, refl)
first_none None (Some lower) e = absurd (no_card e)
first_none (Some mine) (Some lower) e = absurd (cond_some (below_first mine lower) (raised lower) mine e)

tested : (b : Bool) (x : Option Card) (c : Card) → None ≡ cond b x (Some c) → (b ≡ true) × (None ≡ x)
tested true x c e = (refl, e)
tested false x c e = absurd (no_card e)

room_of : (b : Bool) (c : Card) → None ≡ unless (not b) c → b ≡ false
room_of true c e = absurd (no_card e)
room_of false c e = refl

module _ {S P F : Type 0} (store : StoreMeaning S) (map : MapMeaning P F) (f : Front S P) (coins : List ℕ) where
  pub record RequestTold (n : ℕ) : Type 0 where
    pub many : 3 ≤ length coins
    pub in_tree : (get_or coins 0 0 < 2 ^ f.row.depth) × (get_or coins 1 0 < 2 ^ f.row.depth) × (get_or coins 2 0 < 2 ^ f.row.depth)
    pub free : length (store.log f.row.store) + request_moves f.row.depth ≤ store.span f.row.store
    pub room : length (queued f.row.queue) < capacity
    pub lower : None ≡ swap_refusal (map.leaves f.below) (map.rows f.below) (map.unfit f.below) (map.full f.below) n (get_or coins 0 0) (drop 3 coins)

  pub request_told : (n : ℕ) → None ≡ request_refusal_from store map f n coins → RequestTold n
  request_told n e =
      let t = tested (leb 3 (length coins)) _ (own 5) e in
      let many = leb-true _ _ t.0 in
      let u = first_none (own_request f.row.depth (store.span f.row.store) (store.log f.row.store) (length (queued f.row.queue)) coins)
      (swap_refusal (map.leaves f.below) (map.rows f.below) (map.unfit f.below) (map.full f.below) n (get_or coins 0 0) (drop 3 coins)) t.1 in
      let t6 = or-none (unless (coins_fit f.row.depth 3 coins) (own 6)) _ u.0 in
      let t7 = or-none (unless (leb (length (store.log f.row.store) + request_moves f.row.depth) (store.span f.row.store)) (own 7)) _ t6.1 in
      record {
        many = many;
        in_tree = three f.row.depth coins many (and_parts (is_depth f.row.depth) _ (unless-none _ _ t6.0)).1;
        free = leb-true _ _ (unless-none _ _ t7.0);
        room = room_left f.row.queue (room_of (eqb (length (queued f.row.queue)) capacity) (own 8) t7.1);
        lower = u.1;
      }

-- where every row is fit, a request made at once is refused as from the coins on, and so is a drain
module _ {S P F : Type 0} (store : StoreMeaning S) (map : MapMeaning P F) (most : ℕ) (f : Front S P) (coins : List ℕ)
    (fit : unfit_of store map most f ≡ None) where
  fit_row : is_fit f.row.depth (length (store.buckets f.row.store)) ≡ true
  fit_row = (it_fits store map most f.row.store f.below f.row.depth coins fit).fit

  pub asked_at_once : (n : ℕ) → request_refused store map f n coins ≡ request_refusal_from store map f n coins
  asked_at_once n = ap (λ b. or_else (unless b (own 1)) (request_refusal_from store map f n coins)) fit_row

  pub drained_at_once : drain_refused store map f coins ≡ drain_refusal_from store map f coins
  drained_at_once = ap (λ b. or_else (unless b (own 1)) (drain_refusal_from store map f coins)) fit_row
