-- What a table store means: its buckets are in one handed list of words, its log in the other.
use Rattle.std.specs.Prelude.{ℕ, List, length, take, vec_items}
use Rattle.store.specs.declared.table.TableStore.{TableStore}
use Rattle.store.specs.Layout.{buckets_in, span_of}
use Rattle.store.specs.Shapes.{list_shape, one_wide}
use Rattle.store.specs.Stores.{Shape}

-- the handed list of buckets, word by word
abbrev pub table_words : TableStore → List ℕ
table_words s = vec_items s.words

-- the handed list for the log, word by word
abbrev pub table_entries : TableStore → List ℕ
table_entries s = vec_items s.log.words

-- its buckets
abbrev pub table_buckets : TableStore → List (List ℕ)
table_buckets s = buckets_in (table_words s)

-- its span
abbrev pub table_span : TableStore → ℕ
table_span s = span_of (length (table_entries s))

-- its log
abbrev pub table_log : TableStore → List ℕ
table_log s = take s.log.used (table_entries s)

-- the facts of every store hold of it
pub table_shape : (s : TableStore) → Shape (table_buckets s) (table_span s) (table_log s)
table_shape s = list_shape (table_words s) (table_entries s) s.log.used (one_wide s.log.used (length (table_entries s)) s.log.few)
