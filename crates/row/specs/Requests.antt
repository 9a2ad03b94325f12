-- A request of a whole row: how it is refused, and what it does.
use Rattle.std.specs.Prelude.{◌≡◌, ℕ, ◌+◌, [], ◌∷◌, List, length, Some, None, Option, nat_le}
use Rattle.std.specs.Option.{option_map}
use Rattle.tree.specs.declared.block.Block.{Block}
use Rattle.tree.specs.Entries.{are_leaves, request_moves}
use Rattle.tree.specs.Queues.{queued}
use Rattle.steps.specs.Steps.{fetched, found, second_half}
use Rattle.store.specs.declared.interface.BucketStore.{Ghosts as StoreMeaning}
use Rattle.row.specs.declared.fault.RowFault.{RowFault}
use Rattle.row.specs.declared.requests.Ask.{Ask}
use Rattle.row.specs.declared.row.Row.{Row}
use Rattle.row.specs.Rows.{row_in}
use Rattle.row.specs.Trials.{first_fault, has_room, in_range, is_fit}

-- how a request is refused, if it is: the new leaf and both flush leaves are the tree's, and the queue has room, whether or not
-- something arrives
abbrev pub request_refusal_of : {S : Type 0} → StoreMeaning S → Row S → Ask → Option RowFault
request_refusal_of store r ask =
    first_fault (is_fit r.depth (length (store.buckets r.store))) (are_leaves r.depth (ask.new ∷ ask.first ∷ ask.second ∷ []))
    (nat_le (length (store.log r.store) + request_moves r.depth) (store.span r.store)) (has_room (Some (length (queued r.queue))))

-- the leaf along which it fetches: the shown one, reduced to the row's range
abbrev pub shown_leaf : {S : Type 0} → Row S → Ask → ℕ
shown_leaf r ask = in_range r.depth ask.shown.0

-- the words of the block that a row finds, or none
abbrev pub words_found : Option Block → Option (List ℕ)
words_found o = option_map (λ b. b.words) o

-- a block arrives with these words under number n and with its new leaf; without words nothing does
abbrev pub ArrivesAs : ℕ → ℕ → Option (List ℕ) → Option Block → Type 0
ArrivesAs n leaf None None = Unit {0}
ArrivesAs n leaf None (Some b) = ⊥
ArrivesAs n leaf (Some words) None = ⊥
ArrivesAs n leaf (Some words) (Some b) = (b.number.0 ≡ n) × (b.leaf.0 ≡ leaf) × (b.words ≡ words)

-- what a request does that is not refused: it answers these words, and what arrives is made of them by a change
pub record Requested {S : Type 0} (store : StoreMeaning S) (before after : Row S) (ask : Ask) (changed : Option (List ℕ) → Option (List ℕ)) (words : Option (List ℕ)) : Type 0 where
  pub finds_words : words ≡ words_found (found before.depth ask.number.0 (shown_leaf before ask) (row_in store before))
  pub arrives : Option Block
  pub arrives_as : ArrivesAs ask.number.0 ask.new.0 (changed words) arrives
  -- the block of the number is fetched, what arrives comes to the queue, and two dequeues follow
  pub row : row_in store after
      ≡ second_half before.depth arrives (ask.first.0 ∷ ask.second.0 ∷ [])
      (fetched before.depth ask.number.0 (shown_leaf before ask) (row_in store before))
