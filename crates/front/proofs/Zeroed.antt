-- What clearing leaves of a row and of the rows of a map.
use Rattle.std.proofs.Common.{◌≡◌, ℕ, zero, suc, List, [], ◌∷◌, map, length, replicate, Option, refl, ap, ◌∙◌}
use Rattle.std.proofs.lemmas.List.{length-replicate}
use Rattle.tree.specs.declared.queue.Queue.{Queue}
use Rattle.tree.specs.Places.{places_of}
use Rattle.tree.specs.Queues.{queued}
use Rattle.store.specs.Stores.{zeroed}
use Rattle.row.specs.Rows.{decoded, decoded_row}
use Rattle.row.proofs.RowLaws.{same_row}
use Rattle.steps.specs.Order.{InOrder, cleared_row}
use Rattle.steps.proofs.Order.{order_kept}
use Rattle.posmap.specs.Maps.{MapRow, fixed_of, rows_torn, rows_zeroed}
use Rattle.front.specs.Fronts.{fit_up_to, front_rows, front_unfit}

map-replicate : {X Y : Type 0} (f : X → Y) (n : ℕ) (x : X) → map f (replicate n x) ≡ replicate n (f x)
map-replicate f zero x = refl
map-replicate f (suc n) x = ap (λ xs. f x ∷ xs) (map-replicate f n x)

-- zero words are empty places
pub zero_row : (buckets buckets' : List (List ℕ)) (q : Queue) → buckets' ≡ zeroed buckets → queued q ≡ []
    → decoded_row buckets' q ≡ cleared_row (length buckets)
zero_row buckets buckets' q e f = same_row (ap decoded e ∙ map-replicate places_of (length buckets) (replicate 40 0)) f

pub zeroed_long : (rows : List MapRow) → length (rows_zeroed rows) ≡ length rows
zeroed_long [] = refl
zeroed_long (row ∷ rows) = ap suc (zeroed_long rows)

pub torn_long : (rows : List MapRow) → length (rows_torn rows) ≡ length rows
torn_long [] = refl
torn_long (row ∷ rows) = ap suc (torn_long rows)

-- a tear-off changes nothing that never changes
pub torn_fixed : (rows : List MapRow) → fixed_of (rows_torn rows) ≡ fixed_of rows
torn_fixed [] = refl
torn_fixed (row ∷ rows) = ap (λ fs. (row.depth, length row.own, row.span) ∷ fs) (torn_fixed rows)

-- a row and the rows below it, torn off
pub torn_rows : (D : ℕ) (below below' : List ℕ) (rows rows' : List MapRow) (span span' : ℕ) (log log' : List ℕ) → below' ≡ below
    → rows' ≡ rows_torn rows → span' ≡ span → log' ≡ [] → front_rows D below' span' log' rows' ≡ rows_torn (front_rows D below span log rows)
torn_rows D below below' rows rows' span span' log log' el er es e =
    ap (λ xs. front_rows D xs span' log' rows') el
    ∙ (ap (λ s. front_rows D below s log' rows') es ∙ (ap (λ xs. front_rows D below span xs rows') e ∙ ap (front_rows D below span []) er))

-- zeroed twice is zeroed once
pub zeroed_twice : (rows : List MapRow) → rows_zeroed (rows_zeroed rows) ≡ rows_zeroed rows
zeroed_twice [] = refl
zeroed_twice (row ∷ rows) =
    ap (λ (n : ℕ). record { depth = row.depth; own = replicate n 0; span = row.span; log = [] } ∷ rows_zeroed (rows_zeroed rows))
    (length-replicate (length row.own) 0)
    ∙ ap (λ (r : List MapRow). record { depth = row.depth; own = replicate (length row.own) 0; span = row.span; log = [] } ∷ r) (zeroed_twice rows)

-- what fitness looks at has not changed
pub same_unfit : (most D : ℕ) {count count' n n' k k' : ℕ} {unfit unfit' : Option ℕ} → count' ≡ count → n' ≡ n → k' ≡ k → unfit' ≡ unfit
    → front_unfit (fit_up_to most D count' n' k') unfit' ≡ front_unfit (fit_up_to most D count n k) unfit
same_unfit most D ec en ek eu = rw (ec, en, ek, eu)

-- a row and the rows below it, their parts after the clearing marked by a dash
module _ (most D : ℕ) (buckets buckets' : List (List ℕ)) (q : Queue) (below below' : List ℕ) (rows rows' : List MapRow)
    (eb : buckets' ≡ zeroed buckets) (eq : queued q ≡ []) (el : below' ≡ replicate (length below) 0) (er : rows' ≡ rows_zeroed rows) where
  pub leaves_long : length below' ≡ length below
  leaves_long = ap length el ∙ length-replicate (length below) 0

  pub cleared_unfit : (unfit unfit' : Option ℕ) → unfit' ≡ unfit
      → front_unfit (fit_up_to most D (length buckets') (length below') (length rows')) unfit'
      ≡ front_unfit (fit_up_to most D (length buckets) (length below) (length rows)) unfit
  cleared_unfit unfit unfit' eu =
      same_unfit most D (ap length eb ∙ length-replicate (length buckets) (replicate 40 0)) leaves_long (ap length er ∙ zeroed_long rows) eu

  pub cleared_order : InOrder D below' (decoded_row buckets' q)
  cleared_order = rw (el, zero_row buckets buckets' q eb eq) (order_kept.cleared D (length below) (length buckets))

  pub cleared_rows : (span span' : ℕ) (log log' : List ℕ) → span' ≡ span → log' ≡ []
      → front_rows D below' span' log' rows' ≡ rows_zeroed (front_rows D below span log rows)
  cleared_rows span span' log log' es e =
      ap (λ xs. front_rows D xs span' log' rows') el
      ∙ (ap (λ s. front_rows D (replicate (length below) 0) s log' rows') es
      ∙ (ap (λ xs. front_rows D (replicate (length below) 0) span xs rows') e
      ∙ ap (front_rows D (replicate (length below) 0) span []) er))
