use Rattle.std.proofs.Common.{rules}
use Rattle.std.proofs.Output.{has_written_append, has_written_of_eq}
use Rattle.quote.specs.Quotes.{row_line}
use Rattle.quote.proofs.Rows.{lines_more}
use Rattle.quote.proofs.report.write_rows.Goals as goal

pub loop-row-preserved : goal.loop-row-preserved
loop-row-preserved g c p =
    has_written_of_eq _ _ _ _ _ (lines_more row_line c.loop-row.row 0 c.args.depths.now (search rules))
    (has_written_append _ _ _ _ _ _ (c.loop-row.invariant p) (search rules))
