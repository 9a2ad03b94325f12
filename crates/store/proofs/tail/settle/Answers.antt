use Rattle.std.proofs.Common.{◌≡◌, [], get_or, ◌∙◌, ap, arith}
use Rattle.store.specs.Layout.{buckets_in}
use Rattle.store.specs.Tails.{after_entry, entry_words, replayed}
use Rattle.store.proofs.Chunks.{get_or-first_chunks}
use Rattle.store.proofs.Entries.{after_cut}
use Rattle.store.proofs.Replays.{settled_more}
use Rattle.store.proofs.tail.settle.Goals as goal

pub loop-entry-preserved : goal.loop-entry-preserved
loop-entry-preserved c =
    let t = c.args.tail.now in
    let l = c.loop-entry in
    let entries = c.entries-entry-items in
    let bs = buckets_in l.base in
    let cut = ap (λ es. get_or es l.entry-index []) entries.ensures.value
    ∙ get_or-first_chunks entry_words t.used t.words.items l.entry-index (omega (arith, c.loop-entry-test.true, entries.ensures.count)) in
    settled_more c.args.base.now l.base c.settle_entry.new.base t.words.items l.entry-index l.auto.base l.invariant.0 l.invariant.1
    (c.settle_entry.ensures.holds ∙ ap (λ e. after_entry e 0 bs) cut ∙ after_cut t.words.items l.entry-index bs)
    c.settle_entry.ensures.past

pub returns : goal.returns
returns c =
    let t = c.args.tail.now in
    let l = c.loop-entry in
    let all : l.entry-index ≡ t.used = omega (arith, c.loop-entry-test.false, l.auto.entry-index-end, c.entries-entry-items.ensures.count) in
    record {
      holds = l.invariant.0 ∙ ap (λ k. replayed k t.words.items (buckets_in c.args.base.now)) all;
      past = l.invariant.1;
    }
