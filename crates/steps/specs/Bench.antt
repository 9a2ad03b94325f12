-- The bench cases: a table of what the definitions give beside what the rules say.
use Rattle.std.specs.Prelude.{◌≡◌, ℕ, ◌+◌, List, [], ◌∷◌, length, replicate, refl}
use Rattle.std.specs.List.{flat_map, AllByRecursion}
use Rattle.tree.specs.declared.place.Place.{Place}
use Rattle.tree.specs.Entries.{drain_entries, flush_entries, request_entries}
use Rattle.tree.specs.Paths.{path}
use Rattle.tree.specs.Places.{empty_place, words_of}
use Rattle.steps.specs.Steps.{Buckets, flushed_to}

pub record Case : Type 0 where
  -- what the definitions give
  pub given : List ℕ
  -- what the rules say
  pub expected : List ℕ

-- a block of number n and a leaf, whose eight words are its number
abbrev pub sample : ℕ → ℕ → Place
sample n leaf = record { mark = n + 1; leaf = leaf; words = n ∷ n ∷ n ∷ n ∷ n ∷ n ∷ n ∷ n ∷ []; eight = refl }

-- an empty bucket, and buckets as one list of words
abbrev pub none : List Place
none = replicate 4 empty_place

abbrev pub all_words : Buckets → List ℕ
all_words bs = flat_map words_of bs

-- the seven buckets of depth 2 after a whole flush along leaf 3
abbrev pub after_flush : Buckets → List ℕ
after_flush bs = all_words (flushed_to 2 3 bs 2)

-- 1: the path of leaf 2 at depth 2
abbrev pub path_case : Case
path_case = record { given = path 2 2 0 ∷ path 2 2 1 ∷ path 2 2 2 ∷ []; expected = 1 ∷ 3 ∷ 6 ∷ [] }

-- 2: a flush along leaf 2 at depth 2
abbrev pub flush_case : Case
flush_case = record { given = flush_entries 2 2; expected = 1 ∷ 3 ∷ 1 ∷ 6 ∷ 3 ∷ 6 ∷ [] }

-- 3: a request at depth 1 that shows leaf 0 and flushes along 0 and 1
abbrev pub request_case : Case
request_case =
    record {
      given = request_entries 1 0 (0 ∷ 1 ∷ []);
      expected = 1 ∷ 1 ∷ 2 ∷ 2 ∷ 1 ∷ 1 ∷ 1 ∷ 2 ∷ 1 ∷ 2 ∷ 1 ∷ 1 ∷ 1 ∷ 3 ∷ 1 ∷ 3 ∷ [];
    }

-- 4: at depth 12 a request enters 82, a drain 28
abbrev pub count_case : Case
count_case =
    record {
      given = length (request_entries 12 0 (0 ∷ 0 ∷ [])) ∷ length (drain_entries 12 0) ∷ [];
      expected = 82 ∷ 28 ∷ [];
    }

-- 5: the root has leaves 2 and 3 in its places 0 and 1: the second goes to bucket 7, place 0
abbrev pub closer_case : Case
closer_case =
    record {
      given = after_flush ((sample 0 2 ∷ sample 1 3 ∷ empty_place ∷ empty_place ∷ []) ∷ none ∷ none ∷ none ∷ none ∷ none ∷ none ∷ []);
      expected =
          all_words
          ((sample 0 2 ∷ empty_place ∷ empty_place ∷ empty_place ∷ []) ∷ none ∷ none ∷ none ∷ none ∷ none
          ∷ (sample 1 3 ∷ empty_place ∷ empty_place ∷ empty_place ∷ []) ∷ []);
    }

-- 6: the root has leaf 3 in its places 0 and 2: the first goes
abbrev pub tie_case : Case
tie_case =
    record {
      given = after_flush ((sample 0 3 ∷ empty_place ∷ sample 1 3 ∷ empty_place ∷ []) ∷ none ∷ none ∷ none ∷ none ∷ none ∷ none ∷ []);
      expected =
          all_words
          ((empty_place ∷ empty_place ∷ sample 1 3 ∷ empty_place ∷ []) ∷ none ∷ none ∷ none ∷ none ∷ none
          ∷ (sample 0 3 ∷ empty_place ∷ empty_place ∷ empty_place ∷ []) ∷ []);
    }

-- 7: bucket 3 holds four blocks of leaf 2, the root one of leaf 3: none moves
abbrev pub full_buckets : Buckets
full_buckets =
    (sample 4 3 ∷ empty_place ∷ empty_place ∷ empty_place ∷ []) ∷ none ∷ (sample 0 2 ∷ sample 1 2 ∷ sample 2 2 ∷ sample 3 2 ∷ [])
    ∷ none ∷ none ∷ none ∷ none ∷ []

abbrev pub full_case : Case
full_case = record { given = after_flush full_buckets; expected = all_words full_buckets }

abbrev pub bench_table : List Case
bench_table = path_case ∷ flush_case ∷ request_case ∷ count_case ∷ closer_case ∷ tie_case ∷ full_case ∷ []

-- in every case the definitions give what the rules say
abbrev pub BenchTableStands : Type 0
BenchTableStands = AllByRecursion (λ c. c.given ≡ c.expected) bench_table
