-- Where blocks lie, and how it is said.
use Rattle.std.specs.Prelude.{◌≡◌, ℕ, cond, List, [], ◌∷◌, ◌++◌, codes, replicate, Some, None, Option, slice_index_or}
use Rattle.std.specs.Fmt.{decimal}
use Rattle.std.specs.List.{concat, filter_map, range_with_len}
use Rattle.itertools.specs.Consumer.{joined}
use Rattle.bench.specs.Flushes.{PathFlushed}
use Rattle.bench.specs.declared.flushes.PathOfThree.{PathOfThree}
use Rattle.bench.specs.declared.flushes.PlacedBlock.{PlacedBlock}
use Rattle.tree.specs.declared.bucket.Bucket.{Bucket}
use Rattle.tree.specs.declared.place.Place.{Place}
use Rattle.tree.specs.Places.{empty_place, has_block}

-- the block of place i of bucket v, where it has one
abbrev pub block_at : ℕ → List Place → ℕ → Option PlacedBlock
block_at v ps i =
    let p = slice_index_or ps i empty_place in cond (has_block p) (Some (record { leaf = p.leaf; bucket = v; place = i })) None

-- the blocks of bucket v, place 0 first
abbrev pub blocks_in : ℕ → List Place → List PlacedBlock
blocks_in v ps = filter_map (block_at v ps) (range_with_len 0 4)

-- where a block lies
abbrev pub placed_text : PlacedBlock → List ℕ
placed_text p = concat (codes "leaf " ∷ decimal p.leaf ∷ codes " in bucket " ∷ decimal p.bucket ∷ codes " place " ∷ decimal p.place ∷ [])

-- the blocks of the path of leaf 3 of a tree of depth 2, root first: 1, 3, 7
abbrev pub blocks_along : PathOfThree → List PlacedBlock
blocks_along p = blocks_in 1 p.root.places ++ blocks_in 3 p.middle.places ++ blocks_in 7 p.last.places

-- the text says where the blocks lie after a flush along leaf 3 over these two buckets and an empty one
pub record LiesAfterFlush (root middle : Bucket) (text : List ℕ) : Type 0 where
  pub before : PathOfThree
  pub root_is : before.root ≡ root
  pub middle_is : before.middle ≡ middle
  pub last_is : before.last.places ≡ replicate 4 empty_place
  pub after : PathOfThree
  pub flushed : PathFlushed 3 before after
  pub says : text ≡ joined placed_text (codes ", ") (blocks_along after)
