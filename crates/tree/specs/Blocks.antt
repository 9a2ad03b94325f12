-- Lists of blocks: the block of a number, the others, and lists with no number twice.
use Rattle.std.specs.Prelude.{ℕ, Bool, true, cond, not, ◌&&◌, List, [], ◌∷◌, ◌++◌, length, drop, find, slice_get, Option, ◌==◌, nat_lt}
use Rattle.std.specs.List.{list_any, remove}
use Rattle.tree.specs.declared.block.Block.{Block}

-- the block has the number n
abbrev pub numbered : ℕ → Block → Bool
numbered n b = b.number.0 == n

-- some block of the list has the number n
abbrev pub has_number : ℕ → List Block → Bool
has_number n bs = list_any (numbered n) bs

-- no number twice
abbrev pub apart : List Block → Bool
apart [] = true
apart (b ∷ bs) = not (has_number b.number.0 bs) && apart bs

-- the first block of the number n
abbrev pub block_of : ℕ → List Block → Option Block
block_of n bs = find (numbered n) bs

-- the list without the blocks of the number n: later ones move up
abbrev pub others : ℕ → List Block → List Block
others n [] = []
others n (b ∷ bs) = cond (numbered n b) (others n bs) (b ∷ others n bs)

-- how many blocks a queue may hold
abbrev pub capacity : ℕ
capacity = 32

-- a queue takes a block if it is not full and has none of that number
abbrev pub accepts : Block → List Block → Bool
accepts b bs = nat_lt (length bs) capacity && not (has_number b.number.0 bs)

-- a block arrives at the end
abbrev pub arrived : Block → List Block → List Block
arrived b bs = cond (accepts b bs) (bs ++ b ∷ []) bs

-- the first block of the list
abbrev pub first_block : List Block → Option Block
first_block bs = slice_get bs 0

-- the list without its first block
abbrev pub rest_of : List Block → List Block
rest_of bs = drop 1 bs

-- the list without the block at the index i
abbrev pub lacking : ℕ → List Block → List Block
lacking i bs = remove bs i
