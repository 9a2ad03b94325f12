-- What a trial of a row tells that has passed, and when it passes.
use Rattle.std.proofs.Common.{◌≡◌, ℕ, ◌+◌, ◌^◌, ◌<◌, ◌≤◌, Bool, true, false, ◌&&◌, leb, ltb, [], ◌∷◌, length, is_ok, Some, None, Ok, Err, Option, Result, refl, ◌∙◌, arith}
use Rattle.std.specs.Result.{result_err}
use Rattle.std.proofs.lemmas.Bool.{and_from, and_parts, cond-true, le-leb, leb-true, lt-ltb}
use Rattle.std.proofs.lemmas.Nat.{pow_below}
use Rattle.store.specs.declared.interface.BucketStore.{Ghosts as StoreMeaning}
use Rattle.tree.specs.declared.block.Block.{Block}
use Rattle.tree.specs.declared.numbers.Leaf.{Leaf}
use Rattle.tree.specs.Blocks.{capacity}
use Rattle.tree.specs.Entries.{are_leaves, request_moves}
use Rattle.tree.specs.Paths.{is_depth, is_leaf}
use Rattle.tree.specs.Queues.{queued}
use Rattle.row.specs.declared.requests.Ask.{Ask}
use Rattle.row.specs.declared.row.Row.{Row}
use Rattle.row.specs.Requests.{request_refusal_of}
use Rattle.row.specs.Trials.{arrival_fits, first_fault, has_room, is_fit, leaf_fits, refusal, second_moves, second_refusal, tree_buckets, waiting_for}

pub none_ok : {T E : Type 0} (r : Result T E) → result_err r ≡ None → is_ok r ≡ true
none_ok (Ok x) e = refl
none_ok (Err x) e = cc

-- a fit store has a root
root_there : (D count : ℕ) → is_fit D count ≡ true → 1 ≤ count
root_there D count fit =
    let fits = leb-true _ _ (and_parts (is_depth D) (leb (tree_buckets D) count) fit).1 in
    let p : 2 ^ 0 < 2 ^ (D + 1) = pow_below 0 (D + 1) (omega arith) in
    omega arith

-- the four tests of a trial that has passed
pub all_passed : (fit leaves free room : Bool) → None ≡ first_fault fit leaves free room
    → (fit ≡ true) × (leaves ≡ true) × (free ≡ true) × (room ≡ true)
all_passed true true true true e = (refl, refl, refl, refl)
all_passed true true true false e = absurd (cc)
all_passed true true false r e = absurd (cc)
all_passed true false f r e = absurd (cc)
all_passed false l f r e = absurd (cc)

-- and the other way round
all_pass : {fit leaves free room : Bool} → fit ≡ true → leaves ≡ true → free ≡ true → room ≡ true
    → first_fault fit leaves free room ≡ None
all_pass e f g h = cond-true _ _ _ e ∙ (cond-true _ _ _ f ∙ (cond-true _ _ _ g ∙ cond-true _ _ _ h))

-- where something arrives and waits behind fewer than a full queue has, there is room
room_passes : (arrives : Option Block) (waiting : ℕ) → waiting < capacity → has_room (waiting_for arrives waiting) ≡ true
room_passes None waiting l = refl
room_passes (Some b) waiting l = lt-ltb waiting capacity l

-- what the trial of a second half tells that has passed
pub record SecondPassed {S : Type 0} (store : StoreMeaning S) (s : S) (D : ℕ) (first second : Leaf) : Type 0 where
  pub fit : is_fit D (length (store.buckets s)) ≡ true
  pub along_first : is_leaf D first.0 ≡ true
  pub along_second : is_leaf D second.0 ≡ true
  pub free : length (store.log s) + second_moves D ≤ store.span s

-- and that of a request
pub record RequestPassed {S : Type 0} (store : StoreMeaning S) (r : Row S) (new first second : Leaf) (room : Bool) : Type 0 where
  pub fit : is_fit r.depth (length (store.buckets r.store)) ≡ true
  pub of_new : is_leaf r.depth new.0 ≡ true
  pub along_first : is_leaf r.depth first.0 ≡ true
  pub along_second : is_leaf r.depth second.0 ≡ true
  pub free : length (store.log r.store) + request_moves r.depth ≤ store.span r.store
  pub roomy : room ≡ true

module _ {S : Type 0} (store : StoreMeaning S) (s : S) (D : ℕ) where
  -- a step along a leaf of the tree is not refused where the store has buckets enough and the log has room
  pub step_passes : (leaf : Leaf) (entries : ℕ) → is_fit D (length (store.buckets s)) ≡ true
      → is_leaf D leaf.0 ≡ true → length (store.log s) + entries ≤ store.span s
      → refusal D (store.buckets s) (Some leaf) entries (store.span s) (store.log s) None ≡ None
  step_passes leaf entries fit l free = all_pass fit l (le-leb _ _ free) refl

  -- a step that is not refused finds a root
  pub root_passed : (leaf : Option Leaf) (entries : ℕ) (waiting : Option ℕ)
      → None ≡ refusal D (store.buckets s) leaf entries (store.span s) (store.log s) waiting
      → 1 ≤ length (store.buckets s)
  root_passed leaf entries waiting e =
      root_there D (length (store.buckets s))
      (all_passed (is_fit D (length (store.buckets s))) (leaf_fits D leaf)
      (leb (length (store.log s) + entries) (store.span s)) (has_room waiting) e).0

  pub second_passes : (waiting : ℕ) (arrives : Option Block) (first second : Leaf) → is_fit D (length (store.buckets s)) ≡ true
      → arrival_fits D arrives ≡ true → is_leaf D first.0 ≡ true → is_leaf D second.0 ≡ true
      → length (store.log s) + second_moves D ≤ store.span s → waiting < capacity
      → second_refusal D (length (store.buckets s)) arrives first second (store.span s) (length (store.log s)) waiting ≡ None
  second_passes waiting arrives first second fit a f g free room =
      all_pass fit (and_from (arrival_fits D arrives) _ a (and_from (is_leaf D first.0) (is_leaf D second.0) f g))
      (le-leb _ _ free) (room_passes arrives waiting room)

  pub second_passed : (waiting : ℕ) (arrives : Option Block) (first second : Leaf)
      → None ≡ second_refusal D (length (store.buckets s)) arrives first second (store.span s) (length (store.log s)) waiting
      → SecondPassed store s D first second
  second_passed waiting arrives first second e =
      let p = all_passed (is_fit D (length (store.buckets s)))
      (arrival_fits D arrives && (is_leaf D first.0 && is_leaf D second.0))
      (leb (length (store.log s) + second_moves D) (store.span s))
      (has_room (waiting_for arrives waiting)) e in
      let l = and_parts (arrival_fits D arrives) _ p.1 in
      let m = and_parts (is_leaf D first.0) (is_leaf D second.0) l.1 in
      record { fit = p.0; along_first = m.0; along_second = m.1; free = leb-true _ _ p.2 }

module _ {S : Type 0} (store : StoreMeaning S) (r : Row S) where
  pub request_passed : (new first second : Leaf) (room : Bool)
      → None ≡ first_fault (is_fit r.depth (length (store.buckets r.store))) (are_leaves r.depth (new ∷ first ∷ second ∷ []))
      (leb (length (store.log r.store) + request_moves r.depth) (store.span r.store)) room
      → RequestPassed store r new first second room
  request_passed new first second room e =
      let p = all_passed (is_fit r.depth (length (store.buckets r.store))) (are_leaves r.depth (new ∷ first ∷ second ∷ []))
      (leb (length (store.log r.store) + request_moves r.depth) (store.span r.store)) room e in
      let l = and_parts (is_leaf r.depth new.0) _ p.1 in
      let m = and_parts (is_leaf r.depth first.0) _ l.1 in
      let k = and_parts (is_leaf r.depth second.0) _ m.1 in
      record { fit = p.0; of_new = l.0; along_first = m.0; along_second = k.0; free = leb-true _ _ p.2; roomy = p.3 }

  -- and a request is not refused of a fit row, along leaves of its tree, where the log and the queue have room
  pub request_passes : (ask : Ask) → is_fit r.depth (length (store.buckets r.store)) ≡ true → ask.new.0 < 2 ^ r.depth
      → ask.first.0 < 2 ^ r.depth → ask.second.0 < 2 ^ r.depth → length (store.log r.store) + request_moves r.depth ≤ store.span r.store
      → length (queued r.queue) < capacity → request_refusal_of store r ask ≡ None
  request_passes ask fit a b c free room =
      let depth = (and_parts (is_depth r.depth) (leb (tree_buckets r.depth) (length (store.buckets r.store))) fit).0 in
      let leaf : (m : ℕ) → m < 2 ^ r.depth → is_leaf r.depth m ≡ true = λ m l.
      and_from (is_depth r.depth) (ltb m (2 ^ r.depth)) depth (lt-ltb m (2 ^ r.depth) l) in
      let leaves : are_leaves r.depth (ask.new ∷ ask.first ∷ ask.second ∷ []) ≡ true =
      and_from (is_leaf r.depth ask.new.0) _ (leaf ask.new.0 a)
      (and_from (is_leaf r.depth ask.first.0) _ (leaf ask.first.0 b) (and_from (is_leaf r.depth ask.second.0) _ (leaf ask.second.0 c) refl)) in
      all_pass fit leaves (le-leb _ _ free) (lt-ltb (length (queued r.queue)) capacity room)
