-- What clearing and tearing off leave of the leaves of a level.
use Rattle.std.proofs.Common.{◌≡◌, ℕ, List, [], length, replicate, Some, None, Option, sym, refl, ap, ◌∙◌}
use Rattle.tree.specs.declared.queue.Queue.{Queue}
use Rattle.tree.specs.Queues.{queued}
use Rattle.store.specs.Stores.{zeroed}
use Rattle.row.specs.Rows.{decoded_row}
use Rattle.steps.specs.Order.{content}
use Rattle.steps.specs.Steps.{Row}
use Rattle.steps.proofs.Order.{order_kept}
use Rattle.front.proofs.Zeroed.{zero_row}
use Rattle.level.specs.Facts.{length_pages}
use Rattle.level.specs.Levels.{level_leaves, level_length}
use Rattle.level.proofs.PageLeaves.{zero_pages}

zero_leaves : (u : Option ℕ) (row : Row) (n : ℕ) → ((m : ℕ) → content m row ≡ None) → level_leaves u row n ≡ replicate (level_length u n) 0
zero_leaves None row n none = zero_pages row n none
zero_leaves (Some r) row n none = refl

pub level_long : (u : Option ℕ) (row : Row) (n : ℕ) → length (level_leaves u row n) ≡ level_length u n
level_long None row n = length_pages row 0 n
level_long (Some r) row n = refl

-- the unfit row and the count of pages are the same after the clearing
pub cleared_leaves : (buckets buckets' : List (List ℕ)) (q : Queue) (u u' : Option ℕ) (n n' : ℕ) → buckets' ≡ zeroed buckets → queued q ≡ []
    → u' ≡ u → n' ≡ n → level_leaves u' (decoded_row buckets' q) n' ≡ replicate (level_length u n) 0
cleared_leaves buckets buckets' q u u' n n' eb eq eu en =
    zero_leaves u' (decoded_row buckets' q) n'
    (λ m. ap (content m) (zero_row buckets buckets' q eb eq) ∙ order_kept.cleared_holds m (length buckets))
    ∙ (ap (λ o. replicate (level_length o n') 0) eu ∙ ap (λ k. replicate (level_length u k) 0) en)

-- and as many as there were
pub cleared_again : (buckets buckets' : List (List ℕ)) (q : Queue) (u u' : Option ℕ) (n n' : ℕ) (row : Row) → buckets' ≡ zeroed buckets
    → queued q ≡ [] → u' ≡ u → n' ≡ n → level_leaves u' (decoded_row buckets' q) n' ≡ replicate (length (level_leaves u row n)) 0
cleared_again buckets buckets' q u u' n n' row eb eq eu en =
    cleared_leaves buckets buckets' q u u' n n' eb eq eu en ∙ ap (λ k. replicate k 0) (sym (level_long u row n))
