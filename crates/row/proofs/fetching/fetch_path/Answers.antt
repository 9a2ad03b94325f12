use Rattle.std.proofs.Common.{◌≡◌, suc, ◌∙◌, arith}
use Rattle.row.proofs.FetchLaws.{fetch_more, fetch_used}
use Rattle.row.proofs.fetching.fetch_path.Goals as goal

pub fetch_bucket-block-requires-clause-free : goal.fetch_bucket-block-requires-clause-free
fetch_bucket-block-requires-clause-free g c =
    let used = fetch_used c.args.along.depth c.args.number.0 c.args.along.leaf.0 c.loop-layer.layer _ _ _ _ _ c.loop-layer.invariant.fetched in
    omega arith

pub loop-layer-preserved : goal.loop-layer-preserved
loop-layer-preserved g c =
    let bucket = c.fetch_bucket-block.ensures in
    let more = fetch_more c.args.along.depth c.args.number.0 c.args.along.leaf.0 c.loop-layer.layer _ _ _ _ _ _ _ _ _
    (omega arith) c.path_bucket-n.ensures.number c.loop-layer.invariant.fetched bucket.answer bucket.holds bucket.moves.enters in
    record {
      fetched = rw c.or-found.ensures more;
      count = bucket.moves.count ∙ c.loop-layer.invariant.count;
      spans = bucket.moves.span ∙ c.loop-layer.invariant.spans;
    }

pub returns : goal.returns
returns g c =
    let end : c.loop-layer.layer ≡ suc c.args.along.depth = omega arith in
    let all = rw end at c.loop-layer.invariant.fetched in
    record {
      answer = all.answer;
      holds = all.holds;
      moves = record { enters = all.enters; span = c.loop-layer.invariant.spans; count = c.loop-layer.invariant.count };
    }
