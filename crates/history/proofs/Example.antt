-- The bench case of relabelling.
use Rattle.std.proofs.Common.{ℕ, zero, suc, ◌+◌, ◌*◌, ◌^◌, ◌<◌, [], ◌∷◌, get_or, refl, arith}
use Rattle.history.specs.Histories.{Leaves, request_share}
use Rattle.history.specs.Cases.{RelabellingCase}

one_row : (x y z : ℕ) → x < 2 → y < 2 → z < 2 → Leaves request_share (1 ∷ []) (x ∷ y ∷ z ∷ [])
one_row x y z p q s = (refl, at)
  where
    at : (r i : ℕ) → r < 1 → i < request_share → get_or (x ∷ y ∷ z ∷ []) (request_share * r + i) 0 < 2 ^ get_or (1 ∷ []) r 0
    at zero zero b c = p
    at zero (suc zero) b c = q
    at zero (suc (suc zero)) b c = s
    at zero (suc (suc (suc i))) b c = absurd (let e : ⊥ = omega arith in e)
    at (suc r) i b c = absurd (let e : ⊥ = omega arith in e)

pub relabelling_case : RelabellingCase
relabelling_case =
    record {
      side =
          record {
            alike = refl;
            turns = refl;
            first_can = (
              λ _. ((refl, omega arith), one_row 1 0 0 (omega arith) (omega arith) (omega arith)),
              (
                λ _. ((refl, omega arith), one_row 1 0 0 (omega arith) (omega arith) (omega arith)),
                (
                  λ _. (omega arith, one_row 0 0 0 (omega arith) (omega arith) (omega arith)),
                  (λ _. (omega arith, one_row 1 0 0 (omega arith) (omega arith) (omega arith)), tt),
                ),
              ),
            );
          };
      before = refl;
      after = refl;
      coins = refl;
      shows_first = refl;
      shows_second = refl;
    }
