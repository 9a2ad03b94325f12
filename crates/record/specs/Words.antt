-- The first words of a list that may be shorter.
use Rattle.std.specs.Prelude.{◌≡◌, ℕ, zero, suc, List, [], ◌∷◌, length, slice_index, refl}
use Rattle.std.proofs.Common.{ap}

-- n words from the word i on, with zeros past the end
abbrev pub words_from : ℕ → ℕ → List ℕ → List ℕ
words_from zero i ws = []
words_from (suc n) i ws = slice_index ws i ∷ words_from n (suc i) ws

-- there are n of them
pub length-words_from : (n i : ℕ) (ws : List ℕ) → length (words_from n i ws) ≡ n
length-words_from zero i ws = refl
length-words_from (suc n) i ws = ap suc (length-words_from n (suc i) ws)
