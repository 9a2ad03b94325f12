-- The prescribed entries of the access log: what each step of a row of depth D enters, oldest first.
-- They come from leaves alone, never from what the row holds.
use Rattle.std.specs.Prelude.{◌≡◌, ℕ, zero, suc, ◌+◌, ◌-◌, ◌*◌, ◌/◌, ◌%◌, ◌<◌, ◌≤◌, Bool, true, cond, List, [], ◌∷◌, ◌++◌, length, Option, MatchOption, ◌==◌, slice_index}
use Rattle.std.specs.List.{list_all}
use Rattle.tree.specs.declared.numbers.BucketNumber.{BucketNumber}
use Rattle.tree.specs.declared.numbers.Leaf.{Leaf}
use Rattle.tree.specs.declared.entries.Work.{Work}
use Rattle.tree.specs.declared.entries.Work.TheVariants.{Request, Drain}
use Rattle.tree.specs.Paths.{path, is_depth, is_leaf}

-- each of the first k buckets of the path twice, root first: it is read and then written
abbrev pub fetch_to : ℕ → ℕ → ℕ → List ℕ
fetch_to D m zero = []
fetch_to D m (suc k) = fetch_to D m k ++ path D m k ∷ path D m k ∷ []

-- a fetch along the whole path of leaf m
abbrev pub fetch_entries : ℕ → ℕ → List ℕ
fetch_entries D m = fetch_to D m (suc D)

-- a put-back reads the root and writes it
abbrev pub put_back_entries : List ℕ
put_back_entries = 1 ∷ 1 ∷ []

-- the root is read; then at each layer down to k the bucket is read and the one above it written
abbrev pub flush_to : ℕ → ℕ → ℕ → List ℕ
flush_to D m zero = path D m 0 ∷ []
flush_to D m (suc k) = flush_to D m k ++ path D m (suc k) ∷ path D m k ∷ []

-- a flush along the path of leaf m, which ends with the write of the last bucket
abbrev pub flush_entries : ℕ → ℕ → List ℕ
flush_entries D m = flush_to D m D ++ path D m D ∷ []

-- a dequeue is a put-back and a flush
abbrev pub dequeue_entries : ℕ → ℕ → List ℕ
dequeue_entries D m = put_back_entries ++ flush_entries D m

-- one dequeue after the other, for each of the leaves
abbrev pub dequeues_entries : ℕ → List ℕ → List ℕ
dequeues_entries D [] = []
dequeues_entries D (m ∷ ms) = dequeue_entries D m ++ dequeues_entries D ms

-- a request fetches along the shown leaf, and dequeues along each flush leaf
abbrev pub request_entries : ℕ → ℕ → List ℕ → List ℕ
request_entries D shown flushes = fetch_entries D shown ++ dequeues_entries D flushes

-- how many dequeues a request makes
abbrev pub dequeues_per_request : ℕ
dequeues_per_request = 2

-- a drain is one dequeue
abbrev pub drain_entries : ℕ → ℕ → List ℕ
drain_entries D m = dequeue_entries D m

-- how many entries a request makes in a row, and how many a drain
abbrev pub request_moves : ℕ → ℕ
request_moves D = 6 * D + 10

abbrev pub drain_moves : ℕ → ℕ
drain_moves D = 2 * D + 4

abbrev pub moves_of : Work → ℕ → ℕ
moves_of Request D = request_moves D
moves_of Drain D = drain_moves D

-- the lengths of the prescribed lists, for every depth and whatever the leaves
pub record EntryCounts : Type 0 where
  pub fetch : (D m : ℕ) → length (fetch_entries D m) ≡ 2 * D + 2
  pub of_put_back : length put_back_entries ≡ 2
  pub flush : (D m : ℕ) → length (flush_entries D m) ≡ 2 * D + 2
  pub dequeue : (D m : ℕ) → length (dequeue_entries D m) ≡ 2 * D + 4
  pub request : (D shown : ℕ) (flushes : List ℕ) → length flushes ≡ dequeues_per_request
      → length (request_entries D shown flushes) ≡ request_moves D
  pub drain : (D m : ℕ) → length (drain_entries D m) ≡ drain_moves D

-- the moves of a whole region, row by row
abbrev pub total : (ℕ → ℕ) → List ℕ → ℕ
total moves [] = 0
total moves (D ∷ Ds) = moves D + total moves Ds

-- each depth is one that a tree can have
abbrev pub all_depths : List ℕ → Bool
all_depths Ds = list_all is_depth Ds

-- r is entry k of a list, where there are such leaves and the list is that long
abbrev pub Entry : Bool → List ℕ → ℕ → Option BucketNumber → Type 0
Entry fit entries k r =
    MatchOption r (fit ≡ true → length entries ≤ k) (λ v. (fit ≡ true) × (k < length entries) × (v.0 ≡ slice_index entries k))

-- each is a leaf of a tree of depth D
abbrev pub are_leaves : ℕ → List Leaf → Bool
are_leaves D ms = list_all (λ m. is_leaf D m.0) ms

-- the layer of entry k of a flush: odd ones go down, even ones are the bucket above, and the last is the last bucket
abbrev pub layer_in : ℕ → ℕ
layer_in k = cond (k % 2 == 1) (k / 2 + 1) (k / 2 - 1)

abbrev pub flush_layer : ℕ → ℕ → ℕ
flush_layer D k = cond (k == 2 * D + 1) D (layer_in k)
