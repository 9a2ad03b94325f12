use Rattle.std.proofs.Common.{ℕ, List, length, None, refl, ap, ◌∙◌}
use Rattle.posmap.specs.Maps.{fixed_of}
use Rattle.front.proofs.Zeroed.{torn_fixed}
use Rattle.oram.specs.declared.oram.Oram.{Oram}
use Rattle.oram.specs.Calls.{Does, did}
use Rattle.oram.specs.Orams.{most_records, rows_of}
use Rattle.history.specs.Histories.{tearing}
use Rattle.oram.proofs.Endings.{tear_done}
use Rattle.oram.proofs.Laws.{lawful}
use Rattle.oram.proofs.oram.Oram.tear_off.Goals as goal

pub returns : goal.returns
returns g c =
    let o = c.args.self.now in
    let k = g.K.RecordKind in
    let s = g.S.BucketStore in
    let m = g.P.PositionMap in
    let e = c.tear_off.ensures in
    let o' : Oram g.row.K.Denot g.row.S.Denot g.row.P.Denot = record { front = c.tear_off.new.self; opened = o.opened; kind = o.kind } in
    let d : (coins : List ℕ) → Does k s m coins o o' tearing (did None) = λ coins.
    tear_done k s m coins o o'
    (record {
      rows = record {
        length_stays = ap length e.leaves;
        rows_stay = ap fixed_of e.rows ∙ torn_fixed (rows_of s m o);
        unfit_stays = e.unfit most_records;
      };
      buckets = ap length e.does.buckets;
    }) refl
    (record { rows = e.rows; buckets = e.does.buckets; queue = e.does.queue; full = e.full })
    e.order in
    record { does = d; law = λ coins. lawful k s m g.met.K.RecordKind.again coins o o' tearing (did None) (d coins); below = e.does.below }
