use Rattle.std.proofs.Common.{length, replicate, sym, refl, ap, ◌∙◌}
use Rattle.std.proofs.lemmas.List.{length-replicate}
use Rattle.posmap.specs.Maps.{rows_zeroed}
use Rattle.front.specs.Fronts.{front_rows}
use Rattle.front.proofs.Zeroed.{zeroed_twice}
use Rattle.oram.specs.declared.oram.Oram.{Oram}
use Rattle.oram.specs.Orams.{Begun, most_records}
use Rattle.oram.proofs.Runs.{begun_works, runs_are_worked}
use Rattle.oram.proofs.oram.Oram.begin.Goals as goal

pub returns : goal.returns
returns g c =
    let s = c.args.store in
    let p = c.args.below in
    let st = g.S.BucketStore in
    let m = g.P.PositionMap in
    let e = c.clear.ensures in
    let o : Oram g.row.K.Denot g.row.S.Denot g.row.P.Denot = record { front = c.clear.new.self; opened = 0; kind = record {} } in
    let begun : Begun st m o =
    record {
      buckets = e.does.buckets ∙ ap (λ n. replicate n (replicate 40 0)) (sym (ap length e.does.buckets ∙ length-replicate (length (st.buckets s)) (replicate 40 0)));
      queue = e.does.queue;
      rows = e.rows ∙ (sym (zeroed_twice (front_rows c.args.depth (m.leaves p) (st.span s) (st.log s) (m.rows p))) ∙ ap rows_zeroed (sym e.rows));
      full = e.full;
      opened = refl;
      ordered = e.order;
    } in
    record {
      begun = begun;
      depth = e.does.depth;
      buckets = e.does.buckets;
      records = ap length e.leaves ∙ length-replicate (length (m.leaves p)) 0;
      rows = e.rows;
      unfit = e.unfit most_records;
      below = e.does.below;
      worked = begun_works g.K.RecordKind st m o begun;
      runs = runs_are_worked g.K.RecordKind st m g.met.K.RecordKind.again;
    }
