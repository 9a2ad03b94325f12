use Rattle.std.proofs.Common.{get_or, None, refl, ◌∙◌}
use Rattle.std.proofs.lemmas.Result.{err_from_is_err_and}
use Rattle.posmap.specs.Maps.{leaf_numbers, naming}
use Rattle.row.specs.Rows.{row_in}
use Rattle.steps.proofs.Order.{order_kept}
use Rattle.history.specs.Histories.{draining}
use Rattle.front.proofs.Asking.{drained_at_once}
use Rattle.front.proofs.Fits.{drain_five, drain_rest, none_named, unfit_refuses}
use Rattle.oram.specs.Calls.{Does, did, done}
use Rattle.oram.specs.declared.oram.Oram.{Oram}
use Rattle.oram.specs.Orams.{most_records, unfit_of}
use Rattle.oram.proofs.Asked.{all_drained}
use Rattle.oram.proofs.Endings.{drain_done, frame_kept, refused_at_once}
use Rattle.oram.proofs.Laws.{lawful}
use Rattle.oram.proofs.oram.Oram.drain.Goals as goal

pub returns-in_err-fit : goal.returns-in_err-fit
returns-in_err-fit g c =
    let o = c.args.self.now in
    let k = g.K.RecordKind in
    let s = g.S.BucketStore in
    let m = g.P.PositionMap in
    let cs = leaf_numbers c.args.coins.now in
    let p = err_from_is_err_and c.from_residual.result c.from_residual.ensures.1 in
    let d : Does k s m cs o o draining (done g.P.Fault.CardFault c.from_residual.result) =
    rw (p.1, p.2) (refused_at_once k s m cs o draining _ (unfit_refuses (naming 1 (unfit_of s m o)) _ _ c.in_err-fit.ensures)) in
    record { does = d; law = lawful k s m g.met.K.RecordKind.again cs o o draining _ d }

pub returns-in_err-shares : goal.returns-in_err-shares
returns-in_err-shares g c =
    let o = c.args.self.now in
    let f = o.front in
    let k = g.K.RecordKind in
    let s = g.S.BucketStore in
    let m = g.P.PositionMap in
    let cs = leaf_numbers c.args.coins.now in
    let fit = none_named 1 (unfit_of s m o) c.in_ok-fit.ensures in
    let p = err_from_is_err_and c.from_residual-in_err-shares.result c.from_residual-in_err-shares.ensures.1 in
    let d : Does k s m cs o o draining (done g.P.Fault.CardFault c.from_residual-in_err-shares.result) =
    rw (p.1, p.2)
    (refused_at_once k s m cs o draining _ (drain_five s m most_records f.row.store f.below f.row.depth cs fit _ c.in_err-shares.ensures)) in
    record { does = d; law = lawful k s m g.met.K.RecordKind.again cs o o draining _ d }

pub returns-in_err-drain : goal.returns-in_err-drain
returns-in_err-drain g c =
    let o = c.args.self.now in
    let f = o.front in
    let k = g.K.RecordKind in
    let s = g.S.BucketStore in
    let m = g.P.PositionMap in
    let cs = leaf_numbers c.args.coins.now in
    let fit = none_named 1 (unfit_of s m o) c.in_ok-fit.ensures in
    let e = c.in_err-drain.ensures in
    let p = err_from_is_err_and c.from_residual-in_err-drain.result c.from_residual-in_err-drain.ensures.1 in
    let o' : Oram g.row.K.Denot g.row.S.Denot g.row.P.Denot = record { front = c.drain.new.self; opened = o.opened; kind = o.kind } in
    let d : Does k s m cs o o' draining (done g.P.Fault.CardFault c.from_residual-in_err-drain.result) =
    rw (p.1, p.2, e.refused refl)
    (refused_at_once k s m cs o draining _
    (e.card
    ∙ (drained_at_once s m most_records f cs fit ∙ drain_rest s m most_records f.row.store f.below f.row.depth cs fit c.in_ok-shares.ensures))) in
    record { does = d; law = lawful k s m g.met.K.RecordKind.again cs o o' draining _ d }

pub returns : goal.returns
returns g c =
    let o = c.args.self.now in
    let f = o.front in
    let k = g.K.RecordKind in
    let s = g.S.BucketStore in
    let m = g.P.PositionMap in
    let cs = leaf_numbers c.args.coins.now in
    let fit = none_named 1 (unfit_of s m o) c.in_ok-fit.ensures in
    let f' = c.drain.new.self in
    let e = c.in_ok-drain.ensures in
    let w = e.does in
    let o' : Oram g.row.K.Denot g.row.S.Denot g.row.P.Denot = record { front = f'; opened = o.opened; kind = o.kind } in
    let d : Does k s m cs o o' draining (did None) =
    drain_done k s m cs o o'
    (e.card
    ∙ (drained_at_once s m most_records f cs fit ∙ drain_rest s m most_records f.row.store f.below f.row.depth cs fit c.in_ok-shares.ensures))
    (frame_kept k s m cs o o' w.kept.map_stays w.kept.row_stays) refl
    (λ ord. (
      record {
        rows = all_drained s f.row f'.row (m.leaves f.below) (m.leaves f'.below) (m.rows f.below) (m.rows f'.below) (get_or cs 0 0) cs (w.drained ord.0)
            w.kept.row_stays w.entries refl;
        row = w.row;
        below = w.below;
      },
      (
        w.order ord.0,
        rw (w.kept.row_stays.depth, (w.drained ord.0).leaves_stay, w.row)
            (order_kept.drain f.row.depth (get_or cs 0 0) (m.leaves f.below) (row_in s f.row) ord.1),
      ),
    )) in
    record { does = d; law = lawful k s m g.met.K.RecordKind.again cs o o' draining _ d }
