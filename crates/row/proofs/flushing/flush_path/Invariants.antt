use Rattle.std.proofs.Common.{◌≡◌, length}
use Rattle.row.specs.Rows.{decoded}
use Rattle.row.proofs.FlushLaws.{PathFlushed}
use Rattle.row.proofs.flushing.flush_path.Given as goal

abbrev pub invariant-loop-layer : goal.invariant-loop-layer
invariant-loop-layer g l =
    record {
      flushed : PathFlushed l.along.depth l.along.leaf.0 l.layer (decoded (g.S.BucketStore.buckets l.fn.store))
          (decoded (g.S.BucketStore.buckets l.store)) (g.S.BucketStore.log l.fn.store)
          (g.S.BucketStore.log l.store) l.hand.places;
      count : length (g.S.BucketStore.buckets l.store) ≡ length (g.S.BucketStore.buckets l.fn.store);
      spans : g.S.BucketStore.span l.store ≡ g.S.BucketStore.span l.fn.store;
    }
