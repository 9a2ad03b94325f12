-- The tail of a journal store: an entry of forty-two words for each transfer, oldest first.
use Rattle.std.specs.Prelude.{◌≡◌, ℕ, zero, suc, ◌+◌, ◌*◌, ◌/◌, ◌<◌, Bool, true, false, cond, ◌&&◌, List, [], ◌∷◌, ◌++◌, length, take, drop, replicate, Some, None, Option, MatchOption, ◌==◌, slice_index, slice_index_or}
use Rattle.std.specs.Option.{option_map, unwrap_or}
use Rattle.store.specs.declared.tail.EntryKind.{EntryKind}
use Rattle.store.specs.declared.tail.EntryKind.TheVariants.{Read, Write}
use Rattle.store.specs.Layout.{span_of}
use Rattle.store.specs.Stores.{bucket_words, is_bucket, replaced}

-- how many words an entry takes: its kind, the bucket's number, and forty words
abbrev pub entry_words : ℕ
entry_words = 42

-- the kind of a read
abbrev pub read_kind : ℕ
read_kind = 0

-- the kind of a write
abbrev pub write_kind : ℕ
write_kind = 1

-- the word that stands for a kind of entry
abbrev pub kind_word : EntryKind → ℕ
kind_word Read = read_kind
kind_word Write = write_kind

-- the entry of a read of bucket n, which has forty zeros
abbrev pub read_entry : ℕ → List ℕ
read_entry n = read_kind ∷ n ∷ replicate bucket_words 0

-- the entry of a write of bucket n
abbrev pub write_entry : ℕ → List ℕ → List ℕ
write_entry n words = write_kind ∷ n ∷ words

-- how many whole entries fit a tail of so many words
abbrev pub tail_span : ℕ → ℕ
tail_span words = span_of (words / entry_words)

-- the kind of entry k
abbrev pub kind_at : List ℕ → ℕ → ℕ
kind_at tail k = slice_index tail (entry_words * k)

-- the bucket's number in entry k
abbrev pub number_at : List ℕ → ℕ → ℕ
number_at tail k = slice_index tail (entry_words * k + 1)

-- the forty words of entry k
abbrev pub words_at : List ℕ → ℕ → List ℕ
words_at tail k = take bucket_words (drop (entry_words * k + 2) tail)

-- the bucket numbers of the first k entries
abbrev pub numbers_in : ℕ → List ℕ → List ℕ
numbers_in zero tail = []
numbers_in (suc k) tail = numbers_in k tail ++ number_at tail k ∷ []

-- entry k writes bucket n
abbrev pub is_write_of : List ℕ → ℕ → ℕ → Bool
is_write_of tail k n = kind_at tail k == write_kind && number_at tail k == n

-- the latest of the first k entries that writes bucket n
abbrev pub latest_write : ℕ → List ℕ → ℕ → Option ℕ
latest_write zero tail n = None
latest_write (suc k) tail n = cond (is_write_of tail k n) (Some k) (latest_write k tail n)

-- of these entries, each by itself, the found one is the latest that writes bucket n, or none does
abbrev pub IsLatestWrite : List (List ℕ) → ℕ → Option ℕ → Type 0
IsLatestWrite entries n found =
    MatchOption found ((j : ℕ) → j < length entries → is_write_of (slice_index_or entries j []) 0 n ≡ false)
    (λ k. (k < length entries) × (is_write_of (slice_index_or entries k []) 0 n ≡ true)
    × ((j : ℕ) → k < j → j < length entries → is_write_of (slice_index_or entries j []) 0 n ≡ false))

-- the words of bucket n: its latest write in the first k entries, else what it was before them
abbrev pub latest : ℕ → List ℕ → ℕ → List ℕ → List ℕ
latest k tail n before = unwrap_or (option_map (words_at tail) (latest_write k tail n)) before

-- the buckets after entry k: a write replaces its bucket, a read changes none
abbrev pub after_entry : List ℕ → ℕ → List (List ℕ) → List (List ℕ)
after_entry tail k buckets =
    cond (kind_at tail k == write_kind && is_bucket (length buckets) (number_at tail k))
    (replaced buckets (number_at tail k) (words_at tail k)) buckets

-- the buckets after the first k entries
abbrev pub replayed : ℕ → List ℕ → List (List ℕ) → List (List ℕ)
replayed zero tail buckets = buckets
replayed (suc k) tail buckets = after_entry tail k (replayed k tail buckets)
