-- A fetch that has gone through the first k buckets of its path, and one bucket more.
use Rattle.std.proofs.Common.{◌≡◌, ℕ, ◌+◌, ◌*◌, ◌≤◌, List, [], ◌∷◌, ◌++◌, length, Some, None, Option, refl, ap, ◌∙◌, add-one, arith}
use Rattle.std.proofs.lemmas.List.{append_assoc, length-append}
use Rattle.std.specs.Option.{option_or}
use Rattle.tree.specs.declared.block.Block.{Block}
use Rattle.tree.specs.Entries.{fetch_to}
use Rattle.tree.specs.Paths.{path}
use Rattle.tree.specs.Places.{taken, without}
use Rattle.tree.proofs.Counts.{length-fetch_to}
use Rattle.tree.proofs.PathLaws.{path_positive, path_rises}
use Rattle.steps.specs.Steps.{Buckets, bucket, cleared_to, found_to, or_else, with_bucket}
use Rattle.steps.proofs.Rest.{cleared_rest}

or_is : {X : Type 0} (a b : Option X) → option_or a b ≡ or_else a b
or_is None b = refl
or_is (Some x) b = refl

-- the buckets from b to c, the log from l to k, and the block found so far
pub record PathFetched (D n m layers : ℕ) (b c : Buckets) (l k : List ℕ) (block : Option Block) : Type 0 where
  pub answer : block ≡ found_to D n m b layers
  pub holds : c ≡ cleared_to D n m b layers
  pub enters : k ≡ l ++ fetch_to D m layers

-- the next bucket holds what it held when the fetch began
fetch_fresh : (D n m layer : ℕ) (b : Buckets) → layer ≤ D
    → bucket (cleared_to D n m b layer) (path D m layer) ≡ bucket b (path D m layer)
fetch_fresh D n m layer b h =
    cleared_rest D n m b (path D m layer) (path_positive D m layer) layer (λ d g e. omega (arith, path_rises D m d layer g h))

pub fetch_more : (D n m layer v : ℕ) (b c d : Buckets) (l k j : List ℕ) (block more : Option Block) → layer ≤ D
    → v ≡ path D m layer → PathFetched D n m layer b c l k block → more ≡ taken n (bucket c v)
    → d ≡ with_bucket c v (without n (bucket c v)) → j ≡ k ++ v ∷ v ∷ []
    → PathFetched D n m (layer + 1) b d l j (option_or block more)
fetch_more D n m layer v b c d l k j block more h is so answer holds enters =
    record {
      answer =
          rw (add-one layer)
          (or_is block more
          ∙ (ap (λ o. or_else o more) so.answer
          ∙ ap (or_else (found_to D n m b layer))
          (answer ∙ rw (is, so.holds) (ap (taken n) (fetch_fresh D n m layer b h)))));
      holds = rw (add-one layer) (holds ∙ rw (is, so.holds) refl);
      enters = rw (add-one layer) (enters ∙ rw (is, so.enters) (append_assoc l (fetch_to D m layer) _));
    }

-- how many entries there are so far
pub fetch_used : (D n m layers : ℕ) (b c : Buckets) (l k : List ℕ) (block : Option Block) → PathFetched D n m layers b c l k block
    → length k ≡ length l + 2 * layers
fetch_used D n m layers b c l k block so =
    ap length so.enters ∙ (length-append l (fetch_to D m layers) ∙ ap (λ x. length l + x) (length-fetch_to D m layers))
