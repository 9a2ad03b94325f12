use Rattle.std.proofs.Common.{sym, ap}
use Rattle.std.proofs.lemmas.List.{append-nil}
use Rattle.std.proofs.Output.{has_written_of_eq}
use Rattle.std.specs.Fmt.{decimal}
use Rattle.tree.specs.declared.paths.TheConstants.{DEEPEST}
use Rattle.quote.specs.Messages.{message}
use Rattle.quote.proofs.depths.BadLineDisplay.fmt.Goals as goal

pub returns-in-NotADepth-clause-writes : goal.returns-in-NotADepth-clause-writes
returns-in-NotADepth-clause-writes g c p ok =
    let last = append-nil (decimal DEEPEST) in
    let is = ap message c.in-NotADepth.is in
    has_written_of_eq _ _ _ _ _ (cc) (c.write.ensures.writes p ok)

pub returns-in-TooMany-clause-writes : goal.returns-in-TooMany-clause-writes
returns-in-TooMany-clause-writes g c p ok =
    has_written_of_eq _ _ _ _ _ (sym (ap message c.in-TooMany.is)) (c.write-in-TooMany.ensures.writes p ok)
