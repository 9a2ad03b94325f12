use Rattle.std.proofs.Common.{◌≡◌, arith, rules}
use Rattle.tree.proofs.PathLaws.{path_positive}
use Rattle.tree.specs.Paths.{path}
use Rattle.row.specs.Trials.{tree_buckets}
use Rattle.row.proofs.RowLaws.{path_there}
use Rattle.row.proofs.buckets.path_bucket.Goals as goal

pub returns-clause-there : goal.returns-clause-there
returns-clause-there c =
    let D = c.args.along.depth in
    let m = c.args.along.leaf.0 in
    let is : c.unwrap.result.0 ≡ path D m c.args.layer = search rules in
    let low = path_positive D m c.args.layer in
    let high = path_there D m c.args.layer (tree_buckets D) c.args.along.there c.requires (omega arith) in
    (omega arith, omega arith)
