use Rattle.std.proofs.Common.{None, refl}
use Rattle.std.proofs.lemmas.Result.{err_from_is_err_and}
use Rattle.posmap.specs.Maps.{leaf_numbers, naming}
use Rattle.history.specs.Histories.{opening}
use Rattle.front.proofs.Fits.{unfit_refuses}
use Rattle.oram.specs.Calls.{Does, open_time, done}
use Rattle.oram.specs.Orams.{records_of, unfit_of}
use Rattle.oram.proofs.Endings.{one_more, open_done, open_passes, refused_at_once, request_refused}
use Rattle.oram.proofs.Laws.{lawful}
use Rattle.oram.proofs.oram.Oram.open.Goals as goal

pub returns-in_err-fit : goal.returns-in_err-fit
returns-in_err-fit g c =
    let o = c.args.self.now in
    let k = g.K.RecordKind in
    let s = g.S.BucketStore in
    let m = g.P.PositionMap in
    let cs = leaf_numbers c.args.coins.now in
    let p = err_from_is_err_and c.from_residual.result c.from_residual.ensures.1 in
    let d : Does k s m cs o o opening (done g.P.Fault.CardFault c.from_residual.result) =
    rw (p.1, p.2) (refused_at_once k s m cs o opening _ (unfit_refuses (naming 1 (unfit_of s m o)) _ _ c.in_err-fit.ensures)) in
    record { does = d; law = lawful k s m g.met.K.RecordKind.again cs o o opening _ d }

pub returns-in_err-request : goal.returns-in_err-request
returns-in_err-request g c =
    let o = c.args.self.now in
    let k = g.K.RecordKind in
    let s = g.S.BucketStore in
    let m = g.P.PositionMap in
    let cs = leaf_numbers c.args.coins.now in
    let o' = c.request.new.self in
    let p = err_from_is_err_and c.from_residual-in_err-request.result c.from_residual-in_err-request.ensures.1 in
    let d : Does k s m cs o o' opening (done g.P.Fault.CardFault c.from_residual-in_err-request.result) =
    rw (p.1, p.2) (request_refused k s m cs o g.P.Fault.CardFault o' o.opened None (open_time (records_of m o) o.opened) (open_passes (unfit_of s m o) (records_of m o) o.opened c.in_ok-fit.ensures (rw c.len.ensures at c.if-self-len.false)) opening refl _ c.in_err-request.ensures) in
    record { does = d; law = lawful k s m g.met.K.RecordKind.again cs o o' opening _ d }

pub returns : goal.returns
returns g c =
    let o = c.args.self.now in
    let k = g.K.RecordKind in
    let s = g.S.BucketStore in
    let m = g.P.PositionMap in
    let cs = leaf_numbers c.args.coins.now in
    let o' = c.request.new.self in
    let d = open_done k s m cs o g.P.Fault.CardFault o' (open_passes (unfit_of s m o) (records_of m o) o.opened c.in_ok-fit.ensures (rw c.len.ensures at c.if-self-len.false))
    c.in_ok-request.field-0 c.in_ok-request.ensures in
    record { does = d; law = lawful k s m g.met.K.RecordKind.again cs o (one_more k s m cs o o') opening _ d }
