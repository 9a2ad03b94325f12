-- Places and buckets: how forty words are four places, which place is empty, and how a block leaves or enters.
use Rattle.std.specs.Prelude.{◌≡◌, ℕ, ◌+◌, ◌-◌, ◌^◌, Bool, cond, not, List, [], ◌∷◌, ◌++◌, length, Some, None, Ok, Err, Option, Result, ◌==◌, ◌≢◌, nat_lt, slice_index, slice_index_or, slice_set, position, refl}
use Rattle.std.specs.List.{list_all}
use Rattle.tree.specs.declared.block.Block.{Block}
use Rattle.tree.specs.declared.place.Place.{Place}
use Rattle.tree.specs.declared.bucket.Bucket.{Bucket}

-- the ten words of a place
abbrev pub place_words : Place → List ℕ
place_words p = p.mark ∷ p.leaf ∷ p.words

-- the words of places, one after the other: forty of a bucket's four
abbrev pub words_of : List Place → List ℕ
words_of [] = []
words_of (p ∷ ps) = place_words p ++ words_of ps

-- the place that starts at a word
abbrev pub place_at : List ℕ → ℕ → Place
place_at ws i =
    record {
      mark = slice_index ws i;
      leaf = slice_index ws (i + 1);
      words =
          slice_index ws (i + 2) ∷ slice_index ws (i + 3) ∷ slice_index ws (i + 4) ∷ slice_index ws (i + 5) ∷ slice_index ws (i + 6)
          ∷ slice_index ws (i + 7) ∷ slice_index ws (i + 8) ∷ slice_index ws (i + 9) ∷ [];
      eight = refl;
    }

-- the four places of forty words
abbrev pub places_of : List ℕ → List Place
places_of ws = place_at ws 0 ∷ place_at ws 10 ∷ place_at ws 20 ∷ place_at ws 30 ∷ []

abbrev pub empty_place : Place
empty_place = record { mark = 0; leaf = 0; words = 0 ∷ 0 ∷ 0 ∷ 0 ∷ 0 ∷ 0 ∷ 0 ∷ 0 ∷ []; eight = refl }

-- a place is empty when all its ten words are 0
abbrev pub is_empty : Place → Bool
is_empty p = list_all (λ w. w == 0) (place_words p)

-- a place has a block where its first word is not 0
abbrev pub has_block : Place → Bool
has_block p = not (p.mark == 0)

-- the block that a place has, where it has one
abbrev pub block_in : Place → Block
block_in p = record { number = record { 0 = p.mark - 1 }; leaf = record { 0 = p.leaf }; words = p.words; eight = p.eight }

-- the blocks of places, in their order
abbrev pub blocks_in : List Place → List Block
blocks_in [] = []
blocks_in (p ∷ ps) = cond (has_block p) (block_in p ∷ blocks_in ps) (blocks_in ps)

-- the place that holds a block
abbrev pub place_for : Block → Place
place_for b = record { mark = b.number.0 + 1; leaf = b.leaf.0; words = b.words; eight = b.eight }

abbrev pub lowest_empty : List Place → Option ℕ
lowest_empty ps = position is_empty ps

-- the place has a block of the number n
abbrev pub holds : ℕ → Place → Bool
holds n p = p.mark == n + 1

abbrev pub place_of : ℕ → List Place → Option ℕ
place_of n ps = position (holds n) ps

-- a place emptied, or filled: the other places keep their words
abbrev pub emptied : List Place → Option ℕ → List Place
emptied ps None = ps
emptied ps (Some i) = slice_set ps i empty_place

abbrev pub filled : List Place → Place → Option ℕ → List Place
filled ps p None = ps
filled ps p (Some i) = slice_set ps i p

abbrev pub block_at : List Place → Option ℕ → Option Block
block_at ps None = None
block_at ps (Some i) = Some (block_in (slice_index_or ps i empty_place))

-- a bucket's places without the block of the number n, and that block
abbrev pub without : ℕ → List Place → List Place
without n ps = emptied ps (place_of n ps)

abbrev pub taken : ℕ → List Place → Option Block
taken n ps = block_at ps (place_of n ps)

-- the number of a block fits the first word of a place
abbrev pub fits_place : Block → Bool
fits_place b = nat_lt (b.number.0 + 1) (2 ^ 32)

-- where a block enters: the lowest empty place, if its number fits
abbrev pub entry_place : Block → List Place → Option ℕ
entry_place b ps = cond (fits_place b) (lowest_empty ps) None

-- the places after a block has entered, where it finds one
abbrev pub entered : Block → List Place → List Place
entered b ps = filled ps (place_for b) (entry_place b ps)

-- a block that finds no place is handed back
abbrev pub handed_back : Block → Option ℕ → Result (Unit {0}) Block
handed_back b None = Err b
handed_back b (Some i) = Ok tt

-- any forty words, read as places and laid out again
abbrev pub ReadAndLaid : Type 0
ReadAndLaid = (ws : List ℕ) → length ws ≡ 40 → words_of (places_of ws) ≡ ws

-- any bucket, laid out in words and read again
abbrev pub LaidAndRead : Type 0
LaidAndRead = (b : Bucket) → places_of (words_of b.places) ≡ b.places

-- where a place changes, all others keep their words
abbrev pub KeepsOthers : Option ℕ → List Place → List Place → Type 0
KeepsOthers None before after = after ≡ before
KeepsOthers (Some i) before after = (k : ℕ) → (k ≢ i) → slice_index_or after k empty_place ≡ slice_index_or before k empty_place
