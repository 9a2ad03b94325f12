-- How long the prescribed lists are.
use Rattle.std.proofs.Common.{◌≡◌, ℕ, zero, suc, ◌+◌, ◌*◌, Bool, true, false, cond, List, [], ◌∷◌, ◌++◌, length, Some, None, sym, refl, ap, ◌∙◌, suc-mul, zero-mul, arith, length-append}
use Rattle.std.proofs.lemmas.List.Folds.{list_all-append}
use Rattle.std.proofs.lemmas.Option.{none-some}
use Rattle.std.proofs.lemmas.Bool.{and_from}
use Rattle.tree.specs.Entries.{EntryCounts, fetch_to, fetch_entries, flush_to, flush_entries, dequeue_entries, dequeues_entries, request_entries, request_moves, dequeues_per_request, all_depths}
use Rattle.tree.specs.Paths.{path, is_depth}

pub length-fetch_to : (D m k : ℕ) → length (fetch_to D m k) ≡ 2 * k
length-fetch_to D m zero = refl
length-fetch_to D m (suc k) =
    let h = length-append (fetch_to D m k) (path D m k ∷ path D m k ∷ []) in
    let i = length-fetch_to D m k in
    omega arith

pub length-flush_to : (D m k : ℕ) → length (flush_to D m k) ≡ 2 * k + 1
length-flush_to D m zero = refl
length-flush_to D m (suc k) =
    let h = length-append (flush_to D m k) (path D m (suc k) ∷ path D m k ∷ []) in
    let i = length-flush_to D m k in
    omega arith

pub fetch_long : (D m : ℕ) → length (fetch_entries D m) ≡ 2 * D + 2
fetch_long D m = let i = length-fetch_to D m (suc D) in omega arith

pub flush_long : (D m : ℕ) → length (flush_entries D m) ≡ 2 * D + 2
flush_long D m =
    let h = length-append (flush_to D m D) (path D m D ∷ []) in
    let i = length-flush_to D m D in
    omega arith

pub dequeue_long : (D m : ℕ) → length (dequeue_entries D m) ≡ 2 * D + 4
dequeue_long D m = let i = flush_long D m in omega arith

dequeues_long : (D : ℕ) (ms : List ℕ) → length (dequeues_entries D ms) ≡ length ms * (2 * D + 4)
dequeues_long D [] = sym (zero-mul (2 * D + 4))
dequeues_long D (m ∷ ms) =
    let h = length-append (dequeue_entries D m) (dequeues_entries D ms) in
    let i = dequeue_long D m in
    let j = dequeues_long D ms in
    let k = suc-mul (length ms) (2 * D + 4) in
    omega arith

request_long : (D shown : ℕ) (flushes : List ℕ) → length flushes ≡ dequeues_per_request
    → length (request_entries D shown flushes) ≡ request_moves D
request_long D shown flushes h =
    let a = length-append (fetch_entries D shown) (dequeues_entries D flushes) in
    let b = fetch_long D shown in
    let c : length (dequeues_entries D flushes) ≡ 2 * (2 * D + 4) = dequeues_long D flushes ∙ ap (λ n. n * (2 * D + 4)) h in
    omega arith

pub entry_counts : EntryCounts
entry_counts =
    record {
      fetch = fetch_long;
      of_put_back = refl;
      flush = flush_long;
      dequeue = dequeue_long;
      request = request_long;
      drain = dequeue_long;
    }

-- where a test gives no answer it fails
pub given-none : {X : Type 0} (b : Bool) (x : X) → None ≡ cond b (Some x) None → b ≡ false
given-none true x e = absurd (none-some x e)
given-none false x e = refl

-- one depth more at the end
pub depths_push : (xs : List ℕ) (d : ℕ) → all_depths xs ≡ true → is_depth d ≡ true → all_depths (xs ++ d ∷ []) ≡ true
depths_push xs d h k = list_all-append is_depth xs (d ∷ []) ∙ and_from _ _ h (and_from _ _ k refl)
