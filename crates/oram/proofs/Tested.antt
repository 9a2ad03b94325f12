-- What a call of an Oram has, once its tests have passed, and that its row then refuses nothing.
use Rattle.std.proofs.Common.{◌≡◌, ℕ, List, None}
use Rattle.store.specs.declared.interface.BucketStore.{Ghosts as StoreMeaning}
use Rattle.posmap.specs.declared.interface.PositionMap.{Ghosts as MapMeaning}
use Rattle.front.proofs.Passed as fronts
use Rattle.oram.specs.declared.oram.Oram.{Oram}
use Rattle.oram.specs.Calls.{request_refusal}
use Rattle.oram.specs.Orams.{most_records}

module _ {K S P F : Type 0} (store : StoreMeaning S) (maps : MapMeaning P F) (o : Oram K S P) (coins : List ℕ) where
  abbrev pub RequestPassed : ℕ → Type 0
  RequestPassed n =
      fronts.RequestPassed store maps most_records o.front.row.store o.front.below o.front.row.queue o.front.row.depth coins
      (maps.leaves o.front.below) n n

  pub request_passes : (n : ℕ) → None ≡ request_refusal store maps o n coins → RequestPassed n
  request_passes n e =
      fronts.request_passes store maps most_records o.front.row.store o.front.below o.front.row.queue o.front.row.depth coins
      (maps.leaves o.front.below) n 0 n (λ _ t. t) e
