-- Bucket numbers as text.
use Rattle.std.specs.Prelude.{ℕ, List, map, codes}
use Rattle.std.specs.Fmt.{decimal}
use Rattle.itertools.specs.Consumer.{joined}
use Rattle.tree.specs.declared.numbers.BucketNumber.{BucketNumber}

-- the buckets' numbers, with a comma between each two
abbrev pub listed : List BucketNumber → List ℕ
listed bs = joined decimal (codes ", ") (map (λ b. b.0) bs)
