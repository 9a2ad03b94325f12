use Rattle.std.proofs.Common.{refl, rules}
use Rattle.std.proofs.lemmas.Iterator.{YieldsList-from_range, items_from_collect}
use Rattle.std.proofs.lemmas.Iterator.Consumers.{YieldsList-from_filter_map}
use Rattle.bench.specs.Placed.{block_at}
use Rattle.bench.proofs.flushes.blocks_in.Goals as goal

pub returns : goal.returns
returns c =
    items_from_collect _ c.collect.ensures.ran
    (YieldsList-from_filter_map _ (block_at c.args.number c.args.bucket.now.places)
    (YieldsList-from_range 0 4 4 c.filter_map.ensures.source refl) c.filter_map.ensures.closure (λ x r q k. search rules))
