use Rattle.std.proofs.Common.{ℕ, List, Option, Err, refl, ◌∙◌, arith}
use Rattle.std.proofs.lemmas.Bool.{false≢true}
use Rattle.std.proofs.lemmas.Result.{err_from_is_err_and}
use Rattle.posmap.specs.Maps.{leaf_numbers}
use Rattle.tree.specs.Queues.{queued}
use Rattle.front.proofs.Asking.{asked_at_once}
use Rattle.front.proofs.Fits.{request_five, request_rest}
use Rattle.oram.specs.declared.oram.Oram.{Oram}
use Rattle.oram.specs.Orams.{most_records}
use Rattle.oram.proofs.Asked.{asked}
use Rattle.oram.proofs.Cards.{same_place}
use Rattle.oram.proofs.Endings.{frame_kept, refused_ask}
use Rattle.oram.proofs.Tested.{request_passes}
use Rattle.oram.proofs.oram.Oram.request.Goals as goal

pub returns-in_err-shares : goal.returns-in_err-shares
returns-in_err-shares g c =
    let o = c.args.self.now in
    let f = o.front in
    let s = g.S.BucketStore in
    let m = g.P.PositionMap in
    let cs = leaf_numbers c.args.coins.now in
    let n = c.args.number.0 in
    let p = err_from_is_err_and c.from_residual.result c.from_residual.ensures.1 in
    rw p.1
    (refused_ask g.K.RecordKind s m cs o g.P.Fault.CardFault n c.args.put p.0
    (same_place {T = Option (List ℕ)} g.P.Fault.CardFault _ p.0 (Err p.0) refl p.2
    ∙ request_five s m most_records f.row.store f.below f.row.depth cs c.requires.fit (queued f.row.queue) (m.leaves f.below) n 0
    c.requires.number _ c.in_err-shares.ensures))

pub returns-in_err-request : goal.returns-in_err-request
returns-in_err-request g c =
    let o = c.args.self.now in
    let f = o.front in
    let s = g.S.BucketStore in
    let m = g.P.PositionMap in
    let cs = leaf_numbers c.args.coins.now in
    let n = c.args.number.0 in
    let e = c.in_err-request.ensures in
    let p = err_from_is_err_and c.from_residual-in_err-request.result c.from_residual-in_err-request.ensures.1 in
    rw (p.1, e.refused refl)
    (refused_ask g.K.RecordKind s m cs o g.P.Fault.CardFault n c.args.put p.0
    (same_place {T = Option (List ℕ)} g.P.Fault.CardFault _ p.0 (Err p.0) refl p.2
    ∙ (e.card
    ∙ (asked_at_once s m most_records f cs c.requires.fit n
    ∙ request_rest s m most_records f.row.store f.below f.row.depth cs c.requires.fit (queued f.row.queue) (m.leaves f.below) n 0
    c.requires.number n c.requires.number (omega arith) c.in_ok-shares.ensures))))

pub returns : goal.returns
returns g c =
    let o = c.args.self.now in
    let f = o.front in
    let s = g.S.BucketStore in
    let m = g.P.PositionMap in
    let cs = leaf_numbers c.args.coins.now in
    let n = c.args.number.0 in
    let e = c.in_ok-request.ensures in
    let f' = c.request.new.self in
    let o' : Oram g.row.K.Denot g.row.S.Denot g.row.P.Denot = record { front = f'; opened = o.opened; kind = o.kind } in
    let refusal =
    e.card
    ∙ (asked_at_once s m most_records f cs c.requires.fit n
    ∙ request_rest s m most_records f.row.store f.below f.row.depth cs c.requires.fit (queued f.row.queue) (m.leaves f.below) n 0
    c.requires.number n c.requires.number (omega arith) c.in_ok-shares.ensures) in
    let p = request_passes s m o cs n refusal in
    let d = e.does in
    record {
      refusal = refusal;
      same = λ e. absurd (false≢true e);
      frame = frame_kept g.K.RecordKind s m cs o o' d.kept.map_stays d.kept.row_stays;
      opened = refl;
      done = λ ord.
          let a = asked s f.row f'.row d.ask n d.number c.args.put c.in_ok-request.field-0 (m.leaves f.below) (m.leaves f'.below) (m.rows f.below) (m.rows f'.below) cs ord.1
          (d.swapped ord.0) d.row d.entries d.kept.row_stays d.new d.first d.second p.itself.depth c.requires.number p.in_tree.0 p.room in (
            a.found_words,
            record { rows = a.all_rows; arrives = d.row.arrives; arrives_as = a.arrives_as; row = a.row; below = d.below },
            (d.order ord.0, a.ordered),
          );
    }
