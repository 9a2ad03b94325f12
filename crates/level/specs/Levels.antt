-- A level: a row whose pages hold the leaves of the numbers above it, over a map that has a leaf for each page.
use Rattle.std.specs.Prelude.{◌≡◌, ℕ, zero, suc, ◌*◌, ◌/◌, ◌%◌, ◌^◌, List, [], ◌∷◌, ◌++◌, replicate, Some, None, Option, slice_index, slice_set}
use Rattle.tree.specs.declared.block.Block.{Block}
use Rattle.tree.specs.Entries.{drain_entries, request_entries}
use Rattle.steps.specs.Order.{content}
use Rattle.steps.specs.Steps.{Row, dequeued, fetched, found, second_half}
use Rattle.posmap.specs.Maps.{leaves_per_page}
use Rattle.row.specs.Requests.{words_found}

-- the most pages that a level may have
abbrev pub most_pages : ℕ
most_pages = 8192

-- an absent page counts as eight zeros
abbrev pub page_words : Option (List ℕ) → List ℕ
page_words None = replicate leaves_per_page 0
page_words (Some words) = words

-- the words of so many pages, from page j on
abbrev pub pages_from : Row → ℕ → ℕ → List ℕ
pages_from row j zero = []
pages_from row j (suc k) = page_words (content j row) ++ pages_from row (suc j) k

-- a fit level of n pages has eight leaves for each; an unfit one has none
abbrev pub level_leaves : Option ℕ → Row → ℕ → List ℕ
level_leaves None row n = pages_from row 0 n
level_leaves (Some r) row n = []

-- how many that are
abbrev pub level_length : Option ℕ → ℕ → ℕ
level_length None n = leaves_per_page * n
level_length (Some r) n = 0

-- a page with leaf i replaced
abbrev pub page_with : List ℕ → ℕ → ℕ → List ℕ
page_with words i new = slice_set words (i % leaves_per_page) new

-- What a level does to its own row in a swap of leaf i for a new one: along the shown leaf, reduced to the row's range, the
-- page is fetched; it arrives with its own new leaf and with leaf i replaced, always; two dequeues follow.
pub record RowSwapped (D : ℕ) (before after : Row) (log log' : List ℕ) (i new shown : ℕ) (coins : List ℕ) : Type 0 where
  pub page : Block
  pub number : page.number.0 ≡ i / leaves_per_page
  pub leaf : page.leaf.0 ≡ slice_index coins 0
  pub words : page.words ≡ page_with (page_words (words_found (found D (i / leaves_per_page) (shown % 2 ^ D) before))) i new
  pub row : after ≡ second_half D (Some page) (slice_index coins 1 ∷ slice_index coins 2 ∷ []) (fetched D (i / leaves_per_page) (shown % 2 ^ D) before)
  pub entries : log' ≡ log ++ request_entries D (shown % 2 ^ D) (slice_index coins 1 ∷ slice_index coins 2 ∷ [])

-- and in a drain
pub record RowDrained (D : ℕ) (before after : Row) (log log' : List ℕ) (coins : List ℕ) : Type 0 where
  pub row : after ≡ dequeued D (slice_index coins 0) before
  pub entries : log' ≡ log ++ drain_entries D (slice_index coins 0)
