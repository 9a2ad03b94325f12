-- What a request does to an Oram in order, from what the map and row 0 did.
use Rattle.std.proofs.Common.{◌≡◌, ℕ, ◌%◌, ◌^◌, ◌<◌, true, List, [], ◌∷◌, ◌++◌, length, get_or, drop, set, Option, refl, ap, ◌∙◌, subst, mod-eq_of_lt}
use Rattle.std.specs.Option.{option_or}
use Rattle.std.proofs.ByRecursion.{All-get_or}
use Rattle.std.proofs.lemmas.Bool.{cond-true}
use Rattle.tree.specs.declared.block.Block.{Block}
use Rattle.tree.specs.Blocks.{capacity}
use Rattle.tree.specs.Entries.{drain_entries, request_entries}
use Rattle.tree.specs.Paths.{is_depth}
use Rattle.tree.specs.Queues.{queued}
use Rattle.store.specs.declared.interface.BucketStore.{Ghosts as StoreMeaning}
use Rattle.steps.specs.Order.{InOrder, content}
use Rattle.steps.specs.Steps.{fetched, found, second_half}
use Rattle.row.specs.declared.requests.Ask.{Ask}
use Rattle.row.specs.declared.row.Row.{Row}
use Rattle.row.specs.Requests.{ArrivesAs, Requested, shown_leaf, words_found}
use Rattle.row.specs.Rows.{Frame, log_in, row_in}
use Rattle.row.specs.Trials.{in_range}
use Rattle.posmap.specs.Maps.{DrainDone, MapRow, SwapDone, rows_drained}
use Rattle.front.specs.Fronts.{front_rows}
use Rattle.front.proofs.Kept.{kept_found, kept_order}
use Rattle.oram.specs.Calls.{rows_requested}
use Rattle.oram.proofs.Arrivals.{arrives_named}

module _ {S : Type 0} (store : StoreMeaning S) (before after : Row S) (ask : Ask) (n : ℕ) (is_number : ask.number.0 ≡ n) (put words : Option (List ℕ))
    (leaves leaves' : List ℕ) (rows rows' : List MapRow) (coins : List ℕ) where
  abbrev D : ℕ
  D = before.depth

  abbrev new : ℕ
  new = get_or coins 0 0

  abbrev flushes : List ℕ
  flushes = get_or coins 1 0 ∷ get_or coins 2 0 ∷ []

  -- all of it
  pub record AllAsked (arrives : Option Block) : Type 0 where
    pub found_words : words ≡ content n (row_in store before)
    pub arrives_as : ArrivesAs n new (option_or put (content n (row_in store before))) arrives
    pub row : row_in store after ≡ second_half D arrives flushes (fetched D n (get_or leaves n 0) (row_in store before))
    pub all_rows : front_rows after.depth leaves' (store.span after.store) (log_in store after) rows'
        ≡ rows_requested (front_rows D leaves (store.span before.store) (log_in store before) rows) n coins
    pub ordered : InOrder after.depth leaves' (row_in store after)

  module _ (o : InOrder D leaves (row_in store before)) (lower : SwapDone leaves leaves' rows rows' n new (drop 3 coins) ask.shown.0)
      (r : Requested store before after ask (option_or put) words)
      (entries : log_in store after ≡ log_in store before ++ request_entries D (shown_leaf before ask) (ask.first.0 ∷ ask.second.0 ∷ []))
      (frame : Frame store before after) (is_new : ask.new.0 ≡ new) (is_first : ask.first.0 ≡ get_or coins 1 0) (is_second : ask.second.0 ≡ get_or coins 2 0)
      (depth : is_depth D ≡ true) (l : n < length leaves) (fits : new < 2 ^ D) (room : length (queued before.queue) < capacity) where
    abbrev old : ℕ
    old = get_or leaves n 0

    -- the shown leaf is in the row's range: reducing it changes nothing
    along_is : in_range D ask.shown.0 ≡ old
    along_is =
        cond-true _ _ _ depth
        ∙ (ap (λ m. m % 2 ^ D) lower.shown ∙ mod-eq_of_lt (All-get_or (λ m. m < 2 ^ D) leaves n 0 l o.leaves_fit))

    flushes_are : ask.first.0 ∷ ask.second.0 ∷ [] ≡ flushes
    flushes_are = rw (is_first, is_second) refl

    asked_row : row_in store after ≡ second_half D r.arrives flushes (fetched D n old (row_in store before))
    asked_row =
        r.row
        ∙ (ap (λ k. second_half D r.arrives (ask.first.0 ∷ ask.second.0 ∷ []) (fetched D k (in_range D ask.shown.0) (row_in store before))) is_number
        ∙ (ap (λ fs. second_half D r.arrives fs (fetched D n (in_range D ask.shown.0) (row_in store before))) flushes_are
        ∙ ap (λ m. second_half D r.arrives flushes (fetched D n m (row_in store before))) along_is))

    named : ArrivesAs n new (option_or put words) r.arrives
    named =
        subst (λ m. ArrivesAs n m (option_or put words) r.arrives) is_new
        (subst (λ k. ArrivesAs k ask.new.0 (option_or put words) r.arrives) is_number r.arrives_as)

    asked_words : words ≡ content n (row_in store before)
    asked_words =
        r.finds_words
        ∙ (ap (λ k. words_found (found D k (in_range D ask.shown.0) (row_in store before))) is_number
        ∙ (ap (λ m. words_found (found D n m (row_in store before))) along_is
        ∙ kept_found D leaves (row_in store before) (row_in store after) n new r.arrives flushes o l fits room
        (arrives_named n new (option_or put words) r.arrives named) asked_row))

    asked_log : log_in store after ≡ log_in store before ++ request_entries D old flushes
    asked_log =
        entries
        ∙ (ap (λ fs. log_in store before ++ request_entries D (in_range D ask.shown.0) fs) flushes_are
        ∙ ap (λ m. log_in store before ++ request_entries D m flushes) along_is)

    asked_rows : front_rows after.depth leaves' (store.span after.store) (log_in store after) rows'
        ≡ rows_requested (front_rows D leaves (store.span before.store) (log_in store before) rows) n coins
    asked_rows =
        rw (frame.depth, frame.span)
        (ap (λ xs. front_rows D xs (store.span before.store) (log_in store after) rows') lower.sets_leaf
        ∙ (ap (λ xs. front_rows D (set leaves n new) (store.span before.store) xs rows') asked_log
        ∙ ap (front_rows D (set leaves n new) (store.span before.store) (log_in store before ++ request_entries D old flushes)) lower.rows_asked))

    pub asked : AllAsked r.arrives
    asked =
        record {
          found_words = asked_words;
          arrives_as = subst (λ ws. ArrivesAs n new (option_or put ws) r.arrives) asked_words named;
          row = asked_row;
          all_rows = asked_rows;
          ordered =
              rw (frame.depth, lower.sets_leaf)
              (kept_order D leaves (row_in store before) (row_in store after) n new r.arrives flushes o l fits room
              (arrives_named n new (option_or put words) r.arrives named) asked_row);
        }

-- a drain, in the same way
pub all_drained : {S : Type 0} (store : StoreMeaning S) (before after : Row S) (leaves leaves' : List ℕ) (rows rows' : List MapRow)
    (m : ℕ) (coins : List ℕ) → DrainDone leaves leaves' rows rows' (drop 1 coins) → Frame store before after
    → log_in store after ≡ log_in store before ++ drain_entries before.depth m → m ≡ get_or coins 0 0
    → front_rows after.depth leaves' (store.span after.store) (log_in store after) rows'
    ≡ rows_drained (front_rows before.depth leaves (store.span before.store) (log_in store before) rows) coins
all_drained store before after leaves leaves' rows rows' m coins d frame el em =
    rw (frame.depth, frame.span)
    (ap (λ xs. front_rows before.depth xs (store.span before.store) (log_in store after) rows') d.leaves_stay
    ∙ (ap (λ xs. front_rows before.depth leaves (store.span before.store) xs rows') (el ∙ ap (λ x. log_in store before ++ drain_entries before.depth x) em)
    ∙ ap (front_rows before.depth leaves (store.span before.store) (log_in store before ++ drain_entries before.depth (get_or coins 0 0))) d.drains_rows))
