-- How a list of words is a list of buckets, and what a write leaves of a list.
use Rattle.std.specs.Prelude.{◌≡◌, ℕ, ◌+◌, ◌-◌, ◌*◌, ◌/◌, min, List, [], ◌∷◌, ◌++◌, length, take, drop, replicate}
use Rattle.std.specs.Simd.{first_chunks}
use Rattle.store.specs.Stores.{bucket_words, widest_span}

-- the most buckets that a list of words is read for: those of a tree of depth 12
abbrev pub most_buckets : ℕ
most_buckets = 8191

-- how many whole buckets are in so many words
abbrev pub bucket_count : ℕ → ℕ
bucket_count words = min (words / bucket_words) most_buckets

-- the buckets in a list of words
abbrev pub buckets_in : List ℕ → List (List ℕ)
buckets_in words = first_chunks bucket_words (bucket_count (length words)) words

-- how many words all its buckets take: those past them belong to none
abbrev pub used_words : List ℕ → ℕ
used_words words = bucket_words * bucket_count (length words)

-- the words past the last bucket are what they were
abbrev pub KeepsPast : List ℕ → List ℕ → Type 0
KeepsPast before after = drop (used_words before) after ≡ drop (used_words before) before

-- where bucket n begins
abbrev pub start_of : ℕ → ℕ
start_of n = bucket_words * (n - 1)

-- how many entries a log can hold that has room for so many
abbrev pub span_of : ℕ → ℕ
span_of room = min room widest_span

-- how many entries of a width a list has room for
abbrev pub entry_span : ℕ → List ℕ → ℕ
entry_span width words = span_of (length words / width)

-- the list with ys written over it from `at` on
abbrev pub overwritten : List ℕ → ℕ → List ℕ → List ℕ
overwritten xs at ys = take at xs ++ (ys ++ drop (at + length ys) xs)

-- the list with its first n words made 0
abbrev pub blanked : ℕ → List ℕ → List ℕ
blanked n xs = replicate n 0 ++ drop n xs

-- buckets one after the other, as words
abbrev pub laid_out : List (List ℕ) → List ℕ
laid_out [] = []
laid_out (b ∷ bs) = b ++ laid_out bs
