-- What arrives in row 0.
use Rattle.std.proofs.Common.{◌≡◌, ℕ, List, IfSome, Some, None, Option, refl, ap}
use Rattle.std.specs.Option.{option_map}
use Rattle.tree.specs.declared.block.Block.{Block}
use Rattle.row.specs.Requests.{ArrivesAs}

-- by its number and leaf
pub arrives_named : (n leaf : ℕ) (ws : Option (List ℕ)) (a : Option Block) → ArrivesAs n leaf ws a
    → IfSome a (λ b. (b.number.0 ≡ n) × (b.leaf.0 ≡ leaf))
arrives_named n leaf None None h = tt
arrives_named n leaf None (Some b) h = absurd h
arrives_named n leaf (Some ws) None h = absurd h
arrives_named n leaf (Some ws) (Some b) h = (h.0, h.1)

-- by its words
pub arrives_words : (n leaf : ℕ) (ws : Option (List ℕ)) (a : Option Block) → ArrivesAs n leaf ws a → option_map (λ b. b.words) a ≡ ws
arrives_words n leaf None None h = refl
arrives_words n leaf None (Some b) h = absurd h
arrives_words n leaf (Some ws) None h = absurd h
arrives_words n leaf (Some ws) (Some b) h = ap Some h.2
