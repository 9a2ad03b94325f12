use Rattle.std.proofs.Common.{Some, refl}
use Rattle.std.proofs.lemmas.Result.{err_from_is_err_and}
use Rattle.posmap.specs.Maps.{leaf_numbers, naming}
use Rattle.history.specs.Histories.{putting}
use Rattle.oram.specs.Calls.{Does, ask_time, found, request_refusal}
use Rattle.oram.specs.Orams.{records_of, unfit_of}
use Rattle.oram.proofs.Endings.{put_done, refused_at_once, request_refused, time_refuses}
use Rattle.oram.proofs.Laws.{lawful}
use Rattle.oram.proofs.oram.Oram.put.Goals as goal

pub returns-in_err-in_time : goal.returns-in_err-in_time
returns-in_err-in_time g c =
    let o = c.args.self.now in
    let k = g.K.RecordKind in
    let s = g.S.BucketStore in
    let m = g.P.PositionMap in
    let n = c.args.number.0 in
    let cs = leaf_numbers c.args.coins.now in
    let call = putting n c.args.record.now in
    let p = err_from_is_err_and c.from_residual.result c.from_residual.ensures.1 in
    let time = ask_time (records_of m o) o.opened n in
    let d : Does k s m cs o o call (found g.P.Fault.CardFault c.from_residual.result) =
    rw (p.1, p.2) (refused_at_once k s m cs o call _ (time_refuses k s m cs o (naming 1 (unfit_of s m o)) time (request_refusal s m o n cs) _ c.in_err-in_time.ensures)) in
    record { does = d; law = lawful k s m g.met.K.RecordKind.again cs o o call _ d }

pub returns-in_err-words : goal.returns-in_err-words
returns-in_err-words g c =
    let o = c.args.self.now in
    let k = g.K.RecordKind in
    let s = g.S.BucketStore in
    let m = g.P.PositionMap in
    let n = c.args.number.0 in
    let cs = leaf_numbers c.args.coins.now in
    let call = putting n c.args.record.now in
    let o' = c.request.new.self in
    let p = err_from_is_err_and c.from_residual-in_err-words.result c.from_residual-in_err-words.ensures.1 in
    let d : Does k s m cs o o' call (found g.P.Fault.CardFault c.from_residual-in_err-words.result) =
    rw (p.1, p.2) (request_refused k s m cs o g.P.Fault.CardFault o' n (Some c.to_words.result) (ask_time (records_of m o) o.opened n) c.in_ok-in_time.ensures call refl _ c.in_err-words.ensures) in
    record { does = d; law = lawful k s m g.met.K.RecordKind.again cs o o' call _ d }

pub returns : goal.returns
returns g c =
    let o = c.args.self.now in
    let k = g.K.RecordKind in
    let s = g.S.BucketStore in
    let m = g.P.PositionMap in
    let n = c.args.number.0 in
    let cs = leaf_numbers c.args.coins.now in
    let call = putting n c.args.record.now in
    let o' = c.request.new.self in
    let d = put_done k s m cs o g.P.Fault.CardFault o' n c.args.record.now c.to_words.result c.to_words.ensures c.in_ok-in_time.ensures c.in_ok-words.words c.record_in.result
    c.record_in.ensures c.in_ok-words.ensures in
    record { does = d; law = lawful k s m g.met.K.RecordKind.again cs o o' call _ d }
