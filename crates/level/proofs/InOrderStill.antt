-- What a swap and a drain keep and do, of a level in order.
use Rattle.std.proofs.Common.{◌≡◌, ℕ, ◌/◌, ◌%◌, ◌^◌, ◌<◌, List, [], ◌∷◌, ◌++◌, length, get_or, drop, set, Some, sym, ap, ◌∙◌, mod-eq_of_lt, arith}
use Rattle.std.proofs.ByRecursion.{All-get_or}
use Rattle.std.proofs.lemmas.List.{length-set}
use Rattle.tree.specs.Blocks.{capacity}
use Rattle.tree.specs.Entries.{drain_entries, request_entries}
use Rattle.steps.specs.Steps.{Row, fetched, found, second_half}
use Rattle.steps.specs.Order.{InOrder, content}
use Rattle.steps.proofs.Order.{order_kept}
use Rattle.posmap.specs.Maps.{DrainDone, MapRow, SwapDone, rows_drained, rows_swapped}
use Rattle.front.specs.Fronts.{front_rows}
use Rattle.row.specs.Requests.{words_found}
use Rattle.front.proofs.Kept.{kept_found, kept_holds, kept_order, kept_others}
use Rattle.level.specs.Levels.{RowDrained, RowSwapped, page_with, page_words, pages_from}
use Rattle.level.proofs.PageLeaves.{leaf_in-page, same_pages, set-page}

-- what a level in order is after a swap
pub record SwapKeeps (D : ℕ) (below below' : List ℕ) (rows rows' : List MapRow) (before after : Row) (span : ℕ) (log log' : List ℕ)
    (i new shown : ℕ) (coins : List ℕ) : Type 0 where
  pub ordered : InOrder D below' after
  pub leaves : pages_from after 0 (length below') ≡ set (pages_from before 0 (length below)) i new
  pub asked : front_rows D below' span log' rows' ≡ rows_swapped (front_rows D below span log rows) i coins
  pub answer : get_or (page_words (words_found (found D (i / 8) (shown % 2 ^ D) before))) (i % 8) 0
      ≡ get_or (pages_from before 0 (length below)) i 0

module _ (D : ℕ) (below below' : List ℕ) (rows rows' : List MapRow) (before after : Row) (span : ℕ) (log log' : List ℕ)
    (i new shown : ℕ) (coins : List ℕ) (o : InOrder D below before)
    (lower : SwapDone below below' rows rows' (i / 8) (get_or coins 0 0) (drop 3 coins) shown)
    (done : RowSwapped D before after log log' i new shown coins) (l : i / 8 < length below) (fits : get_or coins 0 0 < 2 ^ D)
    (room : length before.queue < capacity) where
  abbrev j : ℕ
  j = i / 8

  abbrev own : ℕ
  own = get_or coins 0 0

  abbrev old : ℕ
  old = get_or below j 0

  abbrev flushes : List ℕ
  flushes = get_or coins 1 0 ∷ get_or coins 2 0 ∷ []

  -- the shown leaf is in the row's range: reducing it changes nothing
  within_range : shown % 2 ^ D ≡ old
  within_range = ap (λ m. m % 2 ^ D) lower.shown ∙ mod-eq_of_lt (All-get_or (λ m. m < 2 ^ D) below j 0 l o.leaves_fit)

  became : after ≡ second_half D (Some done.page) flushes (fetched D j old before)
  became = done.row ∙ ap (λ m. second_half D (Some done.page) flushes (fetched D j m before)) within_range

  page_found : words_found (found D j (shown % 2 ^ D) before) ≡ content j before
  page_found =
      ap (λ m. words_found (found D j m before)) within_range
      ∙ kept_found D below before after j own (Some done.page) flushes o l fits room (done.number, done.leaf) became

  holds : content j after ≡ Some (page_with (page_words (content j before)) i new)
  holds =
      kept_holds D below before after j own (Some done.page) flushes o l fits room (done.number, done.leaf) became
      ∙ (ap Some done.words ∙ ap (λ ws. Some (page_with (page_words ws) i new)) page_found)

  pub swap_keeps : SwapKeeps D below below' rows rows' before after span log log' i new shown coins
  swap_keeps =
      record {
        ordered =
            rw lower.sets_leaf
            (kept_order D below before after j own (Some done.page) flushes o l fits room (done.number, done.leaf) became);
        leaves =
            ap (λ xs. pages_from after 0 (length xs)) lower.sets_leaf
            ∙ (ap (pages_from after 0) (length-set below j own)
            ∙ set-page before after (length below) i new (omega (arith, l)) holds
            (kept_others D below before after j own (Some done.page) flushes o l fits room (done.number, done.leaf) became));
        asked =
            ap (λ xs. front_rows D xs span log' rows') lower.sets_leaf
            ∙ (ap (λ xs. front_rows D (set below j own) span xs rows') done.entries
            ∙ (ap (λ m. front_rows D (set below j own) span (log ++ request_entries D m flushes) rows') within_range
            ∙ ap (front_rows D (set below j own) span (log ++ request_entries D old flushes)) lower.rows_asked));
        answer = ap (λ ws. get_or (page_words ws) (i % 8) 0) page_found ∙ sym (leaf_in-page before (length below) i (omega (arith, l)));
      }

-- what a level in order is after a drain
pub record DrainKeeps (D : ℕ) (below below' : List ℕ) (rows rows' : List MapRow) (before after : Row) (span : ℕ) (log log' : List ℕ)
    (coins : List ℕ) : Type 0 where
  pub ordered : InOrder D below' after
  pub leaves : pages_from after 0 (length below') ≡ pages_from before 0 (length below)
  pub drained : front_rows D below' span log' rows' ≡ rows_drained (front_rows D below span log rows) coins

pub drain_keeps : (D : ℕ) (below below' : List ℕ) (rows rows' : List MapRow) (before after : Row) (span : ℕ) (log log' : List ℕ)
    (coins : List ℕ) → InOrder D below before → DrainDone below below' rows rows' (drop 1 coins)
    → RowDrained D before after log log' coins → DrainKeeps D below below' rows rows' before after span log log' coins
drain_keeps D below below' rows rows' before after span log log' coins o lower done =
    record {
      ordered = rw (lower.leaves_stay, done.row) (order_kept.drain D (get_or coins 0 0) below before o);
      leaves =
          ap (λ xs. pages_from after 0 (length xs)) lower.leaves_stay
          ∙ same_pages before after (length below)
          (λ m. ap (content m) done.row ∙ order_kept.drain_holds D (get_or coins 0 0) below before o m);
      drained =
          ap (λ xs. front_rows D xs span log' rows') lower.leaves_stay
          ∙ (ap (λ xs. front_rows D below span xs rows') done.entries
          ∙ ap (front_rows D below span (log ++ drain_entries D (get_or coins 0 0))) lower.drains_rows);
    }
