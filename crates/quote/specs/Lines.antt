-- What the reading of a line of depths answers.
use Rattle.std.specs.Prelude.{◌≡◌, ℕ, true, IfSome, Option}
use Rattle.tree.specs.Paths.{is_depth}

-- a number, where there is one, is a depth
abbrev pub DepthOrNone : Option ℕ → Type 0
DepthOrNone r = IfSome r (λ d. is_depth d ≡ true)
