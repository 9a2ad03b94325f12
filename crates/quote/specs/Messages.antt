-- What is said of a line that is no list of depths.
use Rattle.std.specs.Prelude.{ℕ, List, [], ◌∷◌, codes}
use Rattle.std.specs.Fmt.{decimal}
use Rattle.std.specs.List.{concat}
use Rattle.quote.specs.declared.depths.BadLine.{BadLine}
use Rattle.quote.specs.declared.depths.BadLine.TheVariants.{NoDepth, NotADepth, TooMany, NoMemory}
use Rattle.quote.specs.declared.depths.TheConstants.{MOST_ROWS}
use Rattle.tree.specs.declared.paths.TheConstants.{DEEPEST}

-- which word is wrong, counted from 1, and how
abbrev pub message : BadLine → List ℕ
message NoDepth = codes "word 1: there is no depth"
message (NotADepth at word) =
    concat (codes "word " ∷ decimal at ∷ codes ": '" ∷ word.now ∷ codes "' is not a depth from 1 to " ∷ decimal DEEPEST ∷ [])
message (TooMany at) = concat (codes "word " ∷ decimal at ∷ codes ": a region has at most " ∷ decimal MOST_ROWS ∷ codes " rows" ∷ [])
message NoMemory = codes "out of memory"
