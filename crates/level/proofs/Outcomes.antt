-- What an accepted call leaves of a level, as the interface says it.
use Rattle.std.proofs.Common.{◌≡◌, ℕ, ◌/◌, ◌%◌, ◌^◌, ◌<◌, List, length, get_or, drop, set, Some, None, Option, sym, refl, ap, ◌∙◌}
use Rattle.store.specs.declared.interface.BucketStore.{Ghosts as StoreMeaning}
use Rattle.tree.specs.declared.queue.Queue.{Queue}
use Rattle.tree.specs.Blocks.{capacity}
use Rattle.tree.specs.Queues.{queued}
use Rattle.steps.specs.Order.{InOrder}
use Rattle.steps.specs.Steps.{Row, found}
use Rattle.posmap.specs.declared.interface.PositionMap.{Ghosts as MapMeaning}
use Rattle.posmap.specs.Maps.{DrainDone, SameFrame, SwapDone}
use Rattle.front.specs.Fronts.{front_rows}
use Rattle.row.specs.Requests.{words_found}
use Rattle.front.proofs.Frames.{rows_kept, unfit_kept}
use Rattle.level.specs.declared.level.Level.{Level}
use Rattle.level.specs.Facts.{length_pages}
use Rattle.level.specs.Levels.{RowDrained, RowSwapped, level_leaves, most_pages, page_words, pages_from}
use Rattle.level.specs.Meaning.{Frame, LeafSwapped, RowsDrained, leaves_of, own_row, pages_of, unfit_of}
use Rattle.level.proofs.InOrderStill.{DrainKeeps, SwapKeeps, drain_keeps, swap_keeps}

same_length : (u : Option ℕ) (before after : Row) (n : ℕ) → length (level_leaves u after n) ≡ length (level_leaves u before n)
same_length None before after n = length_pages after 0 n ∙ sym (length_pages before 0 n)
same_length (Some r) before after n = refl

-- the level s, and what it has become: another store, map and queue, of the same depth
module _ {S P F : Type 0} (store : StoreMeaning S) (map : MapMeaning P F) (s : Level S P) (st : S) (b : P) (q : Queue)
    (frame : SameFrame (map.leaves s.front.below) (map.leaves b) (map.rows s.front.below) (map.rows b) (map.unfit s.front.below) (map.unfit b))
    (ec : length (store.buckets st) ≡ length (store.buckets s.front.row.store)) (es : store.span st ≡ store.span s.front.row.store) where
  abbrev t : Level S P
  t = record { front = record { row = record { store = st; queue = q; depth = s.front.row.depth }; below = b } }

  same_unfit : unfit_of store map t ≡ unfit_of store map s
  same_unfit = unfit_kept most_pages s.front.row.depth (store.log s.front.row.store) (store.log st) frame ec es

  pub level_frame : Frame store map s t
  level_frame =
      record {
        length_stays =
            ap (λ u. length (level_leaves u (own_row store t) (pages_of map t))) same_unfit
            ∙ (ap (λ n. length (level_leaves (unfit_of store map s) (own_row store t) n)) frame.length_stays
            ∙ same_length (unfit_of store map s) (own_row store s) (own_row store t) (pages_of map s));
        rows_stay = rows_kept most_pages s.front.row.depth (store.log s.front.row.store) (store.log st) frame ec es;
        unfit_stays = same_unfit;
      }

  module _ (fit : unfit_of store map s ≡ None) where
    before_is : leaves_of store map s ≡ pages_from (own_row store s) 0 (pages_of map s)
    before_is = ap (λ u. level_leaves u (own_row store s) (pages_of map s)) fit

    after_is : leaves_of store map t ≡ pages_from (own_row store t) 0 (pages_of map t)
    after_is = ap (λ u. level_leaves u (own_row store t) (pages_of map t)) (same_unfit ∙ fit)

  module _ (coins : List ℕ) (r : RowDrained s.front.row.depth (own_row store s) (own_row store t) (store.log s.front.row.store) (store.log st) coins)
      (o : InOrder s.front.row.depth (map.leaves s.front.below) (own_row store s))
      (lower : DrainDone (map.leaves s.front.below) (map.leaves b) (map.rows s.front.below) (map.rows b) (drop 1 coins)) where
    drained : DrainKeeps s.front.row.depth (map.leaves s.front.below) (map.leaves b) (map.rows s.front.below) (map.rows b) (own_row store s)
        (own_row store t) (store.span s.front.row.store) (store.log s.front.row.store) (store.log st) coins
    drained = drain_keeps _ _ _ _ _ _ _ _ _ _ coins o lower r

    pub drain_ordered : InOrder s.front.row.depth (map.leaves b) (own_row store t)
    drain_ordered = drained.ordered

    pub rows_drain : unfit_of store map s ≡ None → RowsDrained store map s t coins
    rows_drain fit =
        record {
          leaves_stay = after_is fit ∙ (drained.leaves ∙ sym (before_is fit));
          drains_rows = ap (λ k. front_rows s.front.row.depth (map.leaves b) k (store.log st) (map.rows b)) es ∙ drained.drained;
        }

  module _ (i new shown : ℕ) (coins : List ℕ)
      (r : RowSwapped s.front.row.depth (own_row store s) (own_row store t) (store.log s.front.row.store) (store.log st) i new shown coins)
      (o : InOrder s.front.row.depth (map.leaves s.front.below) (own_row store s))
      (lower : SwapDone (map.leaves s.front.below) (map.leaves b) (map.rows s.front.below) (map.rows b) (i / 8) (get_or coins 0 0) (drop 3 coins) shown)
      (l : i / 8 < pages_of map s) (fits : get_or coins 0 0 < 2 ^ s.front.row.depth) (room : length (queued s.front.row.queue) < capacity) where
    swapped : SwapKeeps s.front.row.depth (map.leaves s.front.below) (map.leaves b) (map.rows s.front.below) (map.rows b) (own_row store s)
        (own_row store t) (store.span s.front.row.store) (store.log s.front.row.store) (store.log st) i new shown coins
    swapped = swap_keeps _ _ _ _ _ _ _ _ _ _ i new shown coins o lower r l fits room

    pub swap_ordered : InOrder s.front.row.depth (map.leaves b) (own_row store t)
    swap_ordered = swapped.ordered

    pub leaf_swaps : (answer : ℕ) → unfit_of store map s ≡ None
        → answer ≡ get_or (page_words (words_found (found s.front.row.depth (i / 8) (shown % 2 ^ s.front.row.depth) (own_row store s)))) (i % 8) 0
        → LeafSwapped store map s t i new coins answer
    leaf_swaps answer fit e =
        record {
          shown = e ∙ (swapped.answer ∙ ap (λ xs. get_or xs i 0) (sym (before_is fit)));
          sets_leaf = after_is fit ∙ (swapped.leaves ∙ ap (λ xs. set xs i new) (sym (before_is fit)));
          rows_asked = ap (λ k. front_rows s.front.row.depth (map.leaves b) k (store.log st) (map.rows b)) es ∙ swapped.asked;
        }
