use Rattle.std.proofs.Common.{◌≡◌, ◌+◌, ◌*◌, length, get_or, drop, ap, ◌∙◌, arith}
use Rattle.std.proofs.lemmas.List.{get_or-drop, get_or-take}
use Rattle.store.specs.Shapes.{one_wide}
use Rattle.store.proofs.Chunks.{get_or-first_chunks}
use Rattle.store.proofs.Logs.{entry_read}
use Rattle.store.proofs.table.methods.TableStoreBucketStore.log_entry.Goals as goal

pub returns : goal.returns
returns c =
    let log = c.args.self.now.log in
    let words = log.words.items in
    let k = c.args.k in
    let there = c.in_ok-entry.ensures in
    let at : 1 * k + 0 ≡ k = omega arith in
    entry_read words log.used k _ (one_wide log.used (length words) log.few) there.0
    (ap (λ e. get_or e 0 0) (there.1 ∙ get_or-first_chunks 1 log.used words k there.0)
    ∙ get_or-take 1 (drop (1 * k) words) 0 0 (omega arith) ∙ get_or-drop (1 * k) words 0 0 ∙ ap (λ i. get_or words i 0) at)
