use Rattle.std.proofs.Common.{◌/◌, length, take, ap, ◌∙◌, arith}
use Rattle.std.specs.Simd.{first_chunks}
use Rattle.store.proofs.Chunks.{take-first_chunks}
use Rattle.store.proofs.entry_list.EntryList.entries.Goals as goal

pub returns-clause-value : goal.returns-clause-value
returns-clause-value g c =
    let s = c.args.self.now in
    let w = g.row.WIDTH in
    ap (take s.used) (c.as_chunks.ensures.front ∙ ap (λ xs. first_chunks w (length xs / w) xs) c.deref.ensures.value)
    ∙ take-first_chunks w s.used (length s.words.items / w) s.words.items (omega (arith, s.few))
