-- What a journal store means: its buckets are those of its base, with every write of its tail made in turn.
use Rattle.std.specs.Prelude.{ℕ, List, length, vec_items}
use Rattle.store.specs.declared.journal.JournalStore.{JournalStore}
use Rattle.store.specs.Layout.{buckets_in}
use Rattle.store.specs.Shapes.{tail_shape}
use Rattle.store.specs.Stores.{Shape}
use Rattle.store.specs.Tails.{numbers_in, replayed, tail_span}

-- its base, word by word
abbrev pub journal_base : JournalStore → List ℕ
journal_base s = vec_items s.base

-- its tail, word by word
abbrev pub journal_tail : JournalStore → List ℕ
journal_tail s = vec_items s.tail.words

-- its buckets
abbrev pub journal_buckets : JournalStore → List (List ℕ)
journal_buckets s = replayed s.tail.used (journal_tail s) (buckets_in (journal_base s))

-- its span
abbrev pub journal_span : JournalStore → ℕ
journal_span s = tail_span (length (journal_tail s))

-- its log
abbrev pub journal_log : JournalStore → List ℕ
journal_log s = numbers_in s.tail.used (journal_tail s)

-- the facts of every store hold of it
pub journal_shape : (s : JournalStore) → Shape (journal_buckets s) (journal_span s) (journal_log s)
journal_shape s = tail_shape (journal_base s) (journal_tail s) s.tail.used s.tail.few
