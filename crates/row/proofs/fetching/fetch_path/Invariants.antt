use Rattle.std.proofs.Common.{◌≡◌, length}
use Rattle.row.specs.Rows.{decoded}
use Rattle.row.proofs.FetchLaws.{PathFetched}
use Rattle.row.proofs.fetching.fetch_path.Given as goal

abbrev pub invariant-loop-layer : goal.invariant-loop-layer
invariant-loop-layer g l =
    record {
      fetched : PathFetched l.along.depth l.number.0 l.along.leaf.0 l.layer (decoded (g.S.BucketStore.buckets l.initial.store))
          (decoded (g.S.BucketStore.buckets l.store)) (g.S.BucketStore.log l.initial.store)
          (g.S.BucketStore.log l.store) l.found;
      count : length (g.S.BucketStore.buckets l.store) ≡ length (g.S.BucketStore.buckets l.initial.store);
      spans : g.S.BucketStore.span l.store ≡ g.S.BucketStore.span l.initial.store;
    }
