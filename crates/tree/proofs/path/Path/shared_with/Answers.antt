-- The layers apart are counted by the highest bit in which the leaves differ.
use Rattle.std.proofs.Common.{arith, rules}
use Rattle.tree.proofs.PathLaws.{agree_leaves, shared_agree}
use Rattle.tree.proofs.path.Path.shared_with.Goals as goal

pub overflow_sub-result : goal.overflow_sub-result
overflow_sub-result c = omega (arith, (agree_leaves c.args.self.depth _ c.args.other.0 c.args.self.there (search rules)).0)

pub returns : goal.returns
returns c =
    let a = (agree_leaves c.args.self.depth _ c.args.other.0 c.args.self.there (search rules)).1 in
    (search rules, shared_agree _ _ _ _ a, a)
