-- Paths of a tree of depth D: leaf m is bucket 2 ^ D + m, and its path goes from there to the root by halves.
use Rattle.std.specs.Prelude.{◌≡◌, ℕ, zero, suc, ◌+◌, ◌-◌, ◌*◌, ◌/◌, ◌^◌, ◌<◌, ◌≤◌, Bool, cond, ◌&&◌, ◌⊎◌, Some, None, Option, ◌==◌, ◌≢◌, nat_le, nat_lt}
use Rattle.tree.specs.declared.numbers.Leaf.{Leaf}
use Rattle.tree.specs.declared.numbers.BucketNumber.{BucketNumber}

-- the bucket of leaf m's path at layer d, the root's layer being 0
abbrev pub path : ℕ → ℕ → ℕ → ℕ
path D m d = (2 ^ D + m) / 2 ^ (D - d)

-- a tree has 1 to 12 layers below its root
abbrev pub is_depth : ℕ → Bool
is_depth D = nat_le 1 D && nat_le D 12

-- a tree of depth D has a leaf for each number below 2 ^ D
abbrev pub is_leaf : ℕ → ℕ → Bool
is_leaf D m = is_depth D && nat_lt m (2 ^ D)

-- the bucket at a layer of a leaf's path, where there are such a depth, leaf and layer
abbrev pub on_path : ℕ → Leaf → ℕ → Option BucketNumber
on_path D m d = cond (is_leaf D m.0 && nat_le d D) (Some (record { 0 = path D m.0 d })) None

-- how many buckets the paths of two leaves share down to layer k
abbrev pub shared_to : ℕ → ℕ → ℕ → ℕ → ℕ
shared_to D m n zero = cond (path D m 0 == path D n 0) 1 0
shared_to D m n (suc k) = shared_to D m n k + cond (path D m (suc k) == path D n (suc k)) 1 0

-- how many buckets they share in all
abbrev pub shared_buckets : ℕ → ℕ → ℕ → ℕ
shared_buckets D m n = shared_to D m n D

-- the paths of two leaves agree on just the first k layers: down to some layer, and never again below it
abbrev pub AgreeOn : ℕ → ℕ → ℕ → ℕ → Type 0
AgreeOn D m n k =
    (1 ≤ k) × (k ≤ D + 1) × ((d : ℕ) → d < k → path D m d ≡ path D n d)
    × ((d : ℕ) → k ≤ d → d ≤ D → path D m d ≢ path D n d)

-- bucket v lies on layer d: the root alone on layer 0, and twice as many on each next one
abbrev pub OnLayer : ℕ → ℕ → Type 0
OnLayer d v = (2 ^ d ≤ v) × (v < 2 ^ suc d)

-- a bucket's two children: none for 0, which is no bucket, nor where they do not fit a word
abbrev pub children_of : BucketNumber → Option (BucketNumber × BucketNumber)
children_of v =
    cond (nat_le 1 v.0 && nat_lt (2 * v.0 + 1) (2 ^ 32)) (Some (record { 0 = 2 * v.0 }, record { 0 = 2 * v.0 + 1 })) None

-- the numbers whose half is v are 2 v and 2 v + 1, and no others
abbrev pub ByHalves : Type 0
ByHalves =
    (v w : ℕ) → (w / 2 ≡ v → (w ≡ 2 * v) ⊎ (w ≡ 2 * v + 1)) × ((w ≡ 2 * v) ⊎ (w ≡ 2 * v + 1) → w / 2 ≡ v)

-- what holds of the paths of a tree of any depth D, for every leaf m
pub record PathLaws : Type 0 where
  -- a path begins at the root
  pub root : (D m : ℕ) → m < 2 ^ D → path D m 0 ≡ 1
  -- and ends at the leaf's own bucket
  pub last : (D m : ℕ) → path D m D ≡ 2 ^ D + m
  -- each bucket above is the half of the next
  pub halves : (D m d : ℕ) → d < D → path D m d ≡ path D m (suc d) / 2
  -- each lies on its own layer
  pub bounds : (D m d : ℕ) → m < 2 ^ D → d ≤ D → OnLayer d (path D m d)
  -- the next is one of its two children
  pub children : (D m d : ℕ) → d < D → (path D m (suc d) ≡ 2 * path D m d) ⊎ (path D m (suc d) ≡ 2 * path D m d + 1)
  -- two paths agree down to some layer, and never again below it
  pub apart : (D m n : ℕ) → m < 2 ^ D → n < 2 ^ D → (k : ℕ) × AgreeOn D m n k
