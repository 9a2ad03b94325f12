use Rattle.std.proofs.Common.{◌≡◌, rules}
use Rattle.std.proofs.Output.{has_written_of_eq}
use Rattle.tree.specs.Entries.{drain_moves, request_moves}
use Rattle.quote.proofs.report.write_row.Goals as goal

pub returns : goal.returns
returns g c p ok =
    let request : c.unwrap-request.result ≡ request_moves c.args.depth = search rules in
    let drain : c.unwrap-drain.result ≡ drain_moves c.args.depth = search rules in
    has_written_of_eq _ _ _ _ _ (cc) (c.writeln.ensures.writes p ok)
