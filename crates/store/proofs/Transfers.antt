-- How a transfer is answered.
use Rattle.std.proofs.Common.{◌≡◌, ℕ, ◌+◌, ◌≤◌, Bool, true, false, cond, leb, List, length, Some, None, Ok, refl, ap, ◌∙◌, arith}
use Rattle.std.proofs.lemmas.Bool.{leb-true, and_parts}
use Rattle.store.specs.declared.fault.StoreFault.TheVariants.{Full, NoBucket}
use Rattle.store.specs.Layout.{buckets_in, overwritten, start_of}
use Rattle.store.specs.Stores.{bucket_words, is_bucket, refusal, refusal_by, answered}
use Rattle.store.proofs.Logs.{Written, bucket-written, buckets_long}

-- what an answered call tells: nothing refused it, so there was room and there was such a bucket
pub record Admitted {X : Type 0} (entries span : ℕ) (log : List ℕ) (buckets : List (List ℕ)) (n : ℕ) (x y : X) : Type 0 where
  pub free : length log + entries ≤ span
  pub there : is_bucket (length buckets) n ≡ true
  pub low : 1 ≤ n
  pub high : n ≤ length buckets
  pub same : x ≡ y

pub admitted : {X : Type 0} (entries span : ℕ) (log : List ℕ) (buckets : List (List ℕ)) (n : ℕ) (x y : X)
    → Ok x ≡ answered (refusal entries span log buckets n) y → Admitted entries span log buckets n x y
admitted {X} entries span log buckets n x y e = go (leb (length log + entries) span) (is_bucket (length buckets) n) refl refl e
  where
    go : (a b : Bool) → leb (length log + entries) span ≡ a → is_bucket (length buckets) n ≡ b
        → Ok x ≡ answered (cond a (cond b None (Some NoBucket)) (Some Full)) y → Admitted entries span log buckets n x y
    go true true p q e =
        let parts = and_parts (leb 1 n) (leb n (length buckets)) q in
        record {
          free = leb-true (length log + entries) span p;
          there = q;
          low = leb-true 1 n parts.0;
          high = leb-true n (length buckets) parts.1;
          same = cc;
        }
    go true false p q e = let z : ◌≡◌ {A = ℕ} 0 1 = cc in absurd (omega arith)
    go false b p q e = let z : ◌≡◌ {A = ℕ} 0 1 = cc in absurd (omega arith)

-- a bucket that was admitted, written over where it begins
pub written_admitted : (span : ℕ) (log ws : List ℕ) (n at : ℕ) (ys zs : List ℕ)
    → Ok at ≡ answered (refusal 1 span log (buckets_in ws) n) (start_of n) → length ys ≡ bucket_words → zs ≡ overwritten ws at ys
    → Written ws n ys zs
written_admitted span log ws n at ys zs e l z =
    let a = admitted 1 span log (buckets_in ws) n _ _ e in
    bucket-written ws n ys zs a.low (omega (arith, a.high, buckets_long ws)) l (z ∙ ap (λ k. overwritten ws k ys) a.same)

-- a refusal by numbers is the refusal by the lists that they count
pub refusal_counts : (entries span₁ used count span : ℕ) (log : List ℕ) (buckets : List (List ℕ)) (n : ℕ)
    → span₁ ≡ span → length log ≡ used → length buckets ≡ count
    → refusal_by entries span₁ used count n ≡ refusal entries span log buckets n
refusal_counts entries span₁ used count span log buckets n s u k = cc
