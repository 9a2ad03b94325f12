-- What clearing and tearing off do to a row and the map below it.
use Rattle.std.specs.Prelude.{◌≡◌, []}
use Rattle.tree.specs.Queues.{queued}
use Rattle.store.specs.declared.interface.BucketStore.{Ghosts as StoreMeaning}
use Rattle.store.specs.Stores.{zeroed}
use Rattle.front.specs.declared.front.Front.{Front}

-- cleared: every bucket zero, the log and the queue empty, the depth and the span as they were, and the map below cleared
pub record Cleared {S P : Type 0} (store : StoreMeaning S) (MapCleared : P → P → Type 0) (before after : Front S P) : Type 0 where
  pub below : MapCleared before.below after.below
  pub buckets : store.buckets after.row.store ≡ zeroed (store.buckets before.row.store)
  pub log : store.log after.row.store ≡ []
  pub span : store.span after.row.store ≡ store.span before.row.store
  pub queue : queued after.row.queue ≡ []
  pub depth : after.row.depth ≡ before.row.depth

-- torn off: the log empty, and all else as it was
pub record TornOff {S P : Type 0} (store : StoreMeaning S) (MapTorn : P → P → Type 0) (before after : Front S P) : Type 0 where
  pub below : MapTorn before.below after.below
  pub buckets : store.buckets after.row.store ≡ store.buckets before.row.store
  pub log : store.log after.row.store ≡ []
  pub span : store.span after.row.store ≡ store.span before.row.store
  pub queue : after.row.queue ≡ before.row.queue
  pub depth : after.row.depth ≡ before.row.depth
