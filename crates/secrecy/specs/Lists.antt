-- Lists of calls, coins and answers, oldest first, as runs and histories know them.
use Rattle.std.specs.Prelude.{◌≡◌, ℕ, List, [], ◌∷◌, map, reverse, vec_items, Option, Result, Vec}
use Rattle.tree.specs.declared.numbers.Leaf.{Leaf}
use Rattle.card.specs.declared.fault.CardFault.{Ghosts as CardMeaning}
use Rattle.posmap.specs.Maps.{leaf_numbers}
use Rattle.history.specs.Histories as history
use Rattle.oram.specs.declared.fault.OramFault.{OramFault}
use Rattle.oram.specs.Calls.{Outcome, found}
use Rattle.oram.specs.Runs.{Step}
use Rattle.secrecy.specs.declared.calls.Call.{Call}
use Rattle.secrecy.specs.declared.calls.Call.TheVariants.{Open, Get, Put, Drain, TearOff}

-- the call that a value means
abbrev pub call_in : {K : Type 0} → Call K → history.Call K
call_in Open = history.opening
call_in (Get n) = history.getting n.0
call_in (Put n x) = history.putting n.0 x
call_in Drain = history.draining
call_in TearOff = history.tearing

abbrev pub calls_in : {K : Type 0} → List (Call K) → List (history.Call K)
calls_in cs = map call_in cs

-- alike: equally long, and at each turn calls of one sort
abbrev pub LikeCalls : {K : Type 0} → List (Call K) → List (Call K) → Type 0
LikeCalls cs ds = map history.sort (calls_in cs) ≡ map history.sort (calls_in ds)

-- the coins as numbers
abbrev pub coins_in : {Z : Type 0} → List (Vec Leaf Z) → List (List ℕ)
coins_in vs = map (λ v. leaf_numbers (vec_items v)) vs

-- the outcomes that answers tell
abbrev pub outcomes_in : {K F : Type 0} → CardMeaning F → List (Result (Option K) (OramFault F)) → List (Outcome K)
outcomes_in card rs = map (found card) rs

-- calls, coins and outcomes turn by turn
abbrev pub zipped : {R : Type 0} → List (history.Call R) → List (List ℕ) → List (Outcome R) → List (Step R)
zipped [] ds xs = []
zipped (c ∷ cs) [] xs = []
zipped (c ∷ cs) (d ∷ ds) [] = []
zipped (c ∷ cs) (d ∷ ds) (x ∷ xs) = record { call = c; coins = d; outcome = x } ∷ zipped cs ds xs

-- the steps of a run, latest first
abbrev pub steps_of : {R : Type 0} → List (history.Call R) → List (List ℕ) → List (Outcome R) → List (Step R)
steps_of cs ds xs = reverse (zipped cs ds xs)
