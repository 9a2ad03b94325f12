-- What a bucket store means: its buckets, its span and its log, and how each call is answered.
use Rattle.std.specs.Prelude.{◌≡◌, ℕ, ◌+◌, ◌-◌, ◌^◌, ◌<◌, ◌≤◌, Bool, cond, ◌&&◌, List, [], ◌∷◌, ◌++◌, length, replicate, Some, None, Ok, Err, Option, Result, nat_le, nat_lt, slice_index, slice_index_or, slice_set}
use Rattle.std.specs.List.{AllByRecursion}
use Rattle.tree.specs.declared.numbers.BucketNumber.{BucketNumber}
use Rattle.store.specs.declared.fault.StoreFault.{StoreFault}
use Rattle.store.specs.declared.fault.StoreFault.TheVariants.{Full, NoBucket, NoEntry}

-- how many words a bucket has
abbrev pub bucket_words : ℕ
bucket_words = 40

-- the most entries that a log may hold
abbrev pub widest_span : ℕ
widest_span = 65536

-- what holds of every store, whatever was done to it
pub record Shape (buckets : List (List ℕ)) (span : ℕ) (log : List ℕ) : Type 0 where
  -- each bucket has forty words
  pub forty : AllByRecursion (λ b. length b ≡ bucket_words) buckets
  -- a span is at most 65,536
  pub narrow : span ≤ widest_span
  -- the log holds no more than the span
  pub within : length log ≤ span
  -- the number of buckets fits a word
  pub counted : length buckets < 2 ^ 32

-- there is a bucket n among so many: they are numbered from 1
abbrev pub is_bucket : ℕ → ℕ → Bool
is_bucket count n = nat_le 1 n && nat_le n count

-- the words of bucket n
abbrev pub bucket_of : List (List ℕ) → ℕ → List ℕ
bucket_of buckets n = slice_index_or buckets (n - 1) []

-- bucket n replaced, all others as they were
abbrev pub replaced : List (List ℕ) → ℕ → List ℕ → List (List ℕ)
replaced buckets n words = slice_set buckets (n - 1) words

-- as many buckets, every word 0
abbrev pub zeroed : List (List ℕ) → List (List ℕ)
zeroed buckets = replicate (length buckets) (replicate bucket_words 0)

-- the log with bucket n entered at its end
abbrev pub entered : List ℕ → ℕ → List ℕ
entered log n = log ++ n ∷ []

-- How a call that makes so many entries for bucket n is refused, if it is: by 7 where fewer are free, else by 9 where
-- there is no such bucket. First by numbers: the span, the entries used and the count of buckets.
abbrev pub refusal_by : ℕ → ℕ → ℕ → ℕ → ℕ → Option StoreFault
refusal_by entries span used count n =
    cond (nat_le (used + entries) span) (cond (is_bucket count n) None (Some NoBucket)) (Some Full)

-- the same of a store's span, log and buckets
abbrev pub refusal : ℕ → ℕ → List ℕ → List (List ℕ) → ℕ → Option StoreFault
refusal entries span log buckets n = refusal_by entries span (length log) (length buckets) n

-- a call is answered by x unless it is refused
abbrev pub answered : {X : Type 0} → Option StoreFault → X → Result X StoreFault
answered None x = Ok x
answered (Some fault) x = Err fault

-- a call that has nothing to answer is done unless it is refused
abbrev pub done : Option StoreFault → Result (Unit {0}) StoreFault
done refused = answered refused tt

-- entry k of the log, counted from 0, or its refusal
abbrev pub entry_of : List ℕ → ℕ → Result BucketNumber StoreFault
entry_of log k = cond (nat_lt k (length log)) (Ok (record { 0 = slice_index log k })) (Err NoEntry)
