use Rattle.std.proofs.Common.{◌≡◌, ◌<◌, ◌≤◌, length, ap, ◌∙◌, arith}
use Rattle.std.proofs.lemmas.List.{length-map}
use Rattle.tree.specs.Paths.{path}
use Rattle.tree.specs.Places.{places_of}
use Rattle.row.specs.Rows.{decoded}
use Rattle.row.proofs.FlushLaws.{flush_all, flush_more, flush_none, flush_used}
use Rattle.row.proofs.RowLaws.{path_there}
use Rattle.row.proofs.flushing.flush_path.Goals as goal

pub loop-layer-init : goal.loop-layer-init
loop-layer-init g c =
    let s = c.args.store.now in
    let read = c.read_bucket-hand.ensures in
    record {
      flushed = flush_none c.args.along.depth c.args.along.leaf.0 _ (decoded (g.S.BucketStore.buckets s)) (g.S.BucketStore.log s)
          c.path_bucket.ensures.number (ap decoded read.holds) read.places read.moves.enters;
      count = ap length read.holds;
      spans = read.moves.span;
    }

pub flush_layer-hand-requires-clause-free : goal.flush_layer-hand-requires-clause-free
flush_layer-hand-requires-clause-free g c =
    let used = flush_used c.args.along.depth c.args.along.leaf.0 c.loop-layer.layer _ _ _ _ _ c.loop-layer.invariant.flushed in
    omega arith

pub loop-layer-preserved : goal.loop-layer-preserved
loop-layer-preserved g c =
    let D = c.args.along.depth in
    let m = c.args.along.leaf.0 in
    let layer = c.loop-layer.layer in
    let next = c.flush_layer-hand.ensures in
    let bs = g.S.BucketStore.buckets c.loop-layer.store in
    let long = length-map bs places_of in
    let below : layer < D = omega arith in
    let there : path D m layer ≤ length (decoded bs) =
    omega (arith, path_there D m layer _ c.args.along.there (omega arith) c.requires.fits) in
    record {
      flushed = flush_more D m layer _ (decoded bs) _ _ _ _ _ _ c.args.along.there below there c.loop-layer.invariant.flushed
          next.hands next.holds next.moves.enters;
      count = next.moves.count ∙ c.loop-layer.invariant.count;
      spans = next.moves.span ∙ c.loop-layer.invariant.spans;
    }

pub write_bucket-requires-clause-free : goal.write_bucket-requires-clause-free
write_bucket-requires-clause-free g c =
    let used = flush_used c.args.along.depth c.args.along.leaf.0 c.loop-layer.layer _ _ _ _ _ c.loop-layer.invariant.flushed in
    omega arith

pub returns : goal.returns
returns g c =
    let D = c.args.along.depth in
    let write = c.write_bucket.ensures in
    let end : c.loop-layer.layer ≡ D = omega arith in
    let so = rw end at c.loop-layer.invariant.flushed in
    let all = flush_all D c.args.along.leaf.0 _ _ _ _ _ _ _ _ (rw c.depth.ensures at c.path_bucket-2.ensures.number) so write.holds write.moves.enters in
    record {
      holds = all.0;
      moves = record {
        enters = all.1;
        span = write.moves.span ∙ c.loop-layer.invariant.spans;
        count = write.moves.count ∙ c.loop-layer.invariant.count;
      };
    }
