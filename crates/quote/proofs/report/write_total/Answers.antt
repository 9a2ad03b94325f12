use Rattle.std.proofs.Common.{◌^◌, ◌<◌, arith}
use Rattle.tree.specs.Entries.{moves_of, total}
use Rattle.quote.proofs.Rows.{given, total_small}
use Rattle.quote.proofs.report.write_total.Goals as goal

pub unwrap-moved-requires : goal.unwrap-moved-requires
unwrap-moved-requires g c =
    let few = c.requires.few in
    let small = total_small c.args.work c.args.depths.now c.requires.each in
    let fits : total (moves_of c.args.work) c.args.depths.now < 2 ^ 32 = omega arith in
    given c.region_moves.result _ c.region_moves.ensures c.requires.each fits
