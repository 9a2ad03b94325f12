-- The row that a store's buckets and a queue mean, and what no step changes of it.
use Rattle.std.specs.Prelude.{◌≡◌, ℕ, ◌++◌, List, map, length}
use Rattle.tree.specs.declared.queue.Queue.{Queue}
use Rattle.tree.specs.Places.{places_of}
use Rattle.tree.specs.Queues.{queued}
use Rattle.steps.specs.Steps.{Buckets, Row as Meaning}
use Rattle.store.specs.declared.interface.BucketStore.{Ghosts as StoreMeaning}
use Rattle.row.specs.declared.row.Row.{Row}

-- each bucket's words as places
abbrev pub decoded : List (List ℕ) → Buckets
decoded buckets = map places_of buckets

-- the buckets' places, and the blocks of the queue, first to last
abbrev pub decoded_row : List (List ℕ) → Queue → Meaning
decoded_row buckets q = record { buckets = decoded buckets; queue = queued q }

-- the same of a whole row: it is what the steps are defined on
abbrev pub row_in : {S : Type 0} → StoreMeaning S → Row S → Meaning
row_in store r = decoded_row (store.buckets r.store) r.queue

-- its log
abbrev pub log_in : {S : Type 0} → StoreMeaning S → Row S → List ℕ
log_in store r = store.log r.store

-- what no step changes: the depth, the log's span and the count of buckets
pub record Frame {S : Type 0} (store : StoreMeaning S) (before after : Row S) : Type 0 where
  pub depth : after.depth ≡ before.depth
  pub span : store.span after.store ≡ store.span before.store
  pub count : length (store.buckets after.store) ≡ length (store.buckets before.store)

-- a step's work on a store: the log has gained these entries; the span and the count of buckets are what they were
pub record Moved {S : Type 0} (store : StoreMeaning S) (before after : S) (entries : List ℕ) : Type 0 where
  pub enters : store.log after ≡ store.log before ++ entries
  pub span : store.span after ≡ store.span before
  pub count : length (store.buckets after) ≡ length (store.buckets before)
