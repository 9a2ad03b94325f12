-- The leaves of a page, one a word.
use Rattle.std.specs.Prelude.{◌≡◌, ℕ, ◌%◌, ◌≢◌, List, slice_index, slice_set}
use Rattle.record.specs.declared.page.LeafPage.{LeafPage}
use Rattle.record.specs.Words.{words_from, length-words_from}

-- how many leaves a page has
abbrev pub leaves_per_page : ℕ
leaves_per_page = 8

-- the leaf that a page with these leaves has for number n
abbrev pub leaf_in : List ℕ → ℕ → ℕ
leaf_in leaves n = slice_index leaves (n % leaves_per_page)

-- the leaves once number n has leaf m: no other changes
abbrev pub leaf_set : List ℕ → ℕ → ℕ → List ℕ
leaf_set leaves n m = slice_set leaves (n % leaves_per_page) m

-- what replacing the leaf of number n by m does: n has m, and a number that stands elsewhere in its page keeps its leaf
pub record Replaced (old new : List ℕ) (n m : ℕ) : Type 0 where
  pub here : leaf_in new n ≡ m
  pub elsewhere : (j : ℕ) → j % leaves_per_page ≢ n % leaves_per_page → leaf_in new j ≡ leaf_in old j

-- the words of a page are its leaves
abbrev pub leaves_of : LeafPage → List ℕ
leaves_of p = p.leaves

-- the page that any words give
abbrev pub page_of : List ℕ → LeafPage
page_of ws = record { leaves = words_from leaves_per_page 0 ws; eight = length-words_from leaves_per_page 0 ws }
