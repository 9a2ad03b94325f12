-- Places and blocks with equal words are equal, whatever the proofs of their lengths.
use Rattle.std.proofs.Common.{◌≡◌, ℕ, Bool, true, false, cond, ◌&&◌, eqb, List, length, replicate, Some, None, refl, ap, zero, suc, [], ◌∷◌, arith}
use Rattle.std.specs.List.{list_all}
use Rattle.std.specs.Cmp.Lexicographic.{pointwise}
use mathlib.Core.HLevel.{is_prop→PathP}
use native.Mathlib.Nat.{ℕ_set}
use Rattle.std.proofs.lemmas.Bool.{false≢true}
use Rattle.tree.specs.declared.block.Block.{Block}
use Rattle.tree.specs.declared.place.Place.{Place}

pub same_place : (p q : Place) → p.mark ≡ q.mark → p.leaf ≡ q.leaf → p.words ≡ q.words → p ≡ q
same_place p q m l w =
    λ i.
    record {
      mark = m i;
      leaf = l i;
      words = w i;
      eight = is_prop→PathP (λ j. length (w j) ≡ 8) (λ j. ℕ_set (length (w j)) 8) p.eight q.eight i;
    }

pub same_block : (a b : Block) → a.number.0 ≡ b.number.0 → a.leaf.0 ≡ b.leaf.0 → a.words ≡ b.words → a ≡ b
same_block a b n l w =
    λ i.
    record {
      number = record { 0 = n i };
      leaf = record { 0 = l i };
      words = w i;
      eight = is_prop→PathP (λ j. length (w j) ≡ 8) (λ j. ℕ_set (length (w j)) 8) a.eight b.eight i;
    }

-- an answer that is given where a test passes
pub some-given : {X : Type 0} (b : Bool) (x y : X) → b ≡ true → x ≡ y → Some x ≡ cond b (Some y) None
some-given true x y t e = ap Some e
some-given false x y t e = absurd (false≢true t)

-- words that are as many zeros
pub zero_words : (n : ℕ) (ws : List ℕ) → length ws ≡ n → pointwise eqb ws (replicate n 0) ≡ list_all (λ w. eqb w 0) ws
zero_words zero [] h = refl
zero_words zero (w ∷ ws) h = absurd (omega arith)
zero_words (suc n) [] h = absurd (omega arith)
zero_words (suc n) (w ∷ ws) h = ap (λ b. eqb w 0 && b) (zero_words n ws (omega arith))
