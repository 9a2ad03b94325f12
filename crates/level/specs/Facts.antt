-- What holds of every level, from what holds of the map below. It stands here and not among the proofs because a level's member
-- `facts` cites it.
use Rattle.std.specs.Prelude.{◌≡◌, ℕ, zero, suc, ◌*◌, ◌≤◌, Bool, true, false, cond, List, ◌∷◌, length, IfSome, Some, None, Option, ◌==◌, refl}
use Rattle.std.proofs.Common.{inl, inr, sym, ap, subst, ◌∙◌, arith}
use Rattle.std.specs.Option.{option_map}
use Rattle.std.proofs.lemmas.List.{length-append}
use Rattle.std.proofs.lemmas.Bool.{cases_lt, eqb-true}
use Rattle.tree.specs.declared.block.Block.{Block}
use Rattle.tree.specs.Blocks.{block_of, capacity}
use Rattle.tree.specs.Queues.{queued}
use Rattle.steps.specs.Steps.{Row}
use Rattle.steps.specs.Laws.{row_blocks}
use Rattle.steps.specs.Order.{InOrder, content}
use Rattle.steps.proofs.Order.{order_kept}
use Rattle.store.specs.declared.interface.BucketStore.{Ghosts as StoreMeaning}
use Rattle.posmap.specs.declared.interface.PositionMap.{Ghosts as MapMeaning}
use Rattle.posmap.specs.Maps.{MapFacts, MapRow, Names, OwnLeaves, divided, row_at}
use Rattle.front.specs.Fronts.{deeper, fit_up_to, front_full, front_rows, front_unfit}
use Rattle.front.proofs.Kept.{none_unfit}
use Rattle.level.specs.declared.level.Level.{Level}
use Rattle.level.specs.Levels.{level_leaves, most_pages, page_words, pages_from}
use Rattle.level.specs.Meaning.{Ordered, full_of, leaves_of, own_row, pages_of, rows_of, unfit_of}

-- a page has eight words, present or absent
pub eight_words : (o : Option Block) → length (page_words (option_map (λ b. b.words) o)) ≡ 8
eight_words None = refl
eight_words (Some b) = b.eight

-- page j of a row
abbrev pub page : ℕ → Row → List ℕ
page j row = page_words (content j row)

-- which is eight words
pub eight : (j : ℕ) (row : Row) → length (page j row) ≡ 8
eight j row = eight_words (block_of j (row_blocks row))

-- so many pages are eight times as many words
pub length_pages : (row : Row) (j k : ℕ) → length (pages_from row j k) ≡ 8 * k
length_pages row j zero = refl
length_pages row j (suc k) =
    length-append (page j row) (pages_from row (suc j) k)
    ∙ (let a = eight j row in let b = length_pages row (suc j) k in omega arith)

-- unfit and full name rows that exist
unfit_named : (fit : Bool) (unfit : Option ℕ) (row : MapRow) (rows : List MapRow) → Names unfit rows
    → Names (front_unfit fit unfit) (row ∷ rows)
unfit_named true None row rows h = tt
unfit_named false None row rows h = omega arith
unfit_named fit (Some r) row rows h = omega arith

full_named : (q : Bool) (full : Option ℕ) (row : MapRow) (rows : List MapRow) → Names full rows
    → Names (cond q (Some 0) (deeper full)) (row ∷ rows)
full_named true full row rows h = omega arith
full_named false None row rows h = tt
full_named false (Some r) row rows h = omega arith

-- a fit level has eight leaves to a page
pub fit_length : (unfit : Option ℕ) (row : Row) (n : ℕ) → unfit ≡ None → length (level_leaves unfit row n) ≡ 8 * n
fit_length unfit row n e = ap (λ u. length (level_leaves u row n)) e ∙ length_pages row 0 n

-- divided once, that is as many as there are pages
eight_divided : (n m : ℕ) → m ≡ 8 * n → n ≡ divided m
eight_divided n m e = omega arith

-- each row has an own leaf for each number that it can be asked
own_leaves : (unfit : Option ℕ) (row : Row) (below : List ℕ) (rows : List MapRow) (D span : ℕ) (log : List ℕ)
    → unfit ≡ None → OwnLeaves (length below) rows
    → OwnLeaves (length (level_leaves unfit row (length below))) (front_rows D below span log rows)
own_leaves unfit row below rows D span log e h =
    let n = eight_divided (length below) (length (level_leaves unfit row (length below))) (fit_length unfit row (length below) e) in
    (n, subst (λ k. OwnLeaves k rows) n h)

-- a full row has more than 31 own leaves
small_never_full : (D : ℕ) (below : List ℕ) (row : Row) (rows : List MapRow) (span : ℕ) (log : List ℕ) (full : Option ℕ) (q : Bool)
    → q ≡ (length row.queue == capacity) → InOrder D below row
    → IfSome full (λ r. capacity ≤ length (row_at rows r).own)
    → IfSome (cond q (Some 0) (deeper full)) (λ r. capacity ≤ length (row_at (front_rows D below span log rows) r).own)
small_never_full D below row rows span log full true e o h =
    elim (cases_lt (length below) capacity) [
      | inl l ↦
          let w = eqb-true _ _ (sym e) in
          let f = order_kept.never_full D below row o l in
          absurd (let n : ⊥ = omega arith in n)
      | inr l ↦ l
    ]
small_never_full D below row rows span log None false e o h = tt
small_never_full D below row rows span log (Some r) false e o h = h

-- the facts of a row of pages in front of a map of which they hold: whatever its depth, its blocks, its log, and whether it is fit
pub page_facts : (ordered : Type 0) (D : ℕ) (below : List ℕ) (rows : List MapRow) (unfit full : Option ℕ) (row : Row) (fit : Bool)
    (span : ℕ) (log : List ℕ) → MapFacts ordered below rows unfit full
    → MapFacts (ordered × InOrder D below row) (level_leaves (front_unfit fit unfit) row (length below))
    (front_rows D below span log rows) (front_unfit fit unfit) (front_full row.queue full)
page_facts ordered D below rows unfit full row fit span log facts =
    record {
      unfit_named = unfit_named fit unfit (record { depth = D; own = below; span = span; log = log }) rows facts.unfit_named;
      full_named = full_named (length row.queue == capacity) full (record { depth = D; own = below; span = span; log = log }) rows facts.full_named;
      own_leaves = λ e.
          own_leaves (front_unfit fit unfit) row below rows D span log e (facts.own_leaves (none_unfit fit unfit e).0);
      small_never_full = λ o.
          small_never_full D below row rows span log full (length row.queue == capacity) refl o.1
          (facts.small_never_full o.0);
    }

-- the facts of a level, all together
pub level_facts : {S P F : Type 0} (store : StoreMeaning S) (map : MapMeaning P F) (s : Level S P)
    → MapFacts (Ordered store map s) (leaves_of store map s) (rows_of store map s) (unfit_of store map s) (full_of map s)
level_facts store map s =
    let r = s.front.row in
    let b = s.front.below in
    let fit = fit_up_to most_pages r.depth (length (store.buckets r.store)) (pages_of map s) (length (map.rows b)) in
    page_facts (map.ordered b) r.depth (map.leaves b) (map.rows b) (map.unfit b) (map.full b) (own_row store s) fit
    (store.span r.store) (store.log r.store) (map.facts b)
