use Rattle.std.proofs.Common.{◌++◌, map, arith}
use Rattle.std.specs.List.{flat_map}
use Rattle.bank_prog_form.specs.Columns as columns
use Rattle.bank_prog_form.specs.inner.Form.{value_view}
use Rattle.ssu_ir.specs.View.{labels_view}
use Rattle.bank_prog_form.proofs.Loops.{out-more, out-all}
use Rattle.bank_prog.proofs.columns.push_point_stays.Goals as goal

pub loop-v-preserved : goal.loop-v-preserved
loop-v-preserved c =
    out-more (columns.stay_columns (labels_view c.args.f.now.ssu.now) c.args.n) value_view c.args.values.now c.loop-v.v-index _ c.loop-v.out.items c.push_stay.new.out.items
    (c.args.out.now.items ++ flat_map (columns.stay_columns (labels_view c.args.f.now.ssu.now) c.args.n) (map value_view c.args.values.now)) (omega arith) c.in_ok-push_stay.ensures c.loop-v.invariant

pub returns : goal.returns
returns c = out-all (columns.stay_columns (labels_view c.args.f.now.ssu.now) c.args.n) value_view c.args.values.now c.loop-v.v-index c.loop-v.out.items (c.args.out.now.items ++ flat_map (columns.stay_columns (labels_view c.args.f.now.ssu.now) c.args.n) (map value_view c.args.values.now)) (omega arith) c.loop-v.invariant
