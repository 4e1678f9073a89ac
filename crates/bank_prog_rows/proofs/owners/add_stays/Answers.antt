use Rattle.std.proofs.Common.{◌++◌, arith}
use Rattle.std.specs.List.{flat_map}
use Rattle.ssu_ir.specs.View.{labels_view}
use Rattle.bank_prog_form.specs.inner.Owners as owners
use Rattle.bank_prog_form.proofs.Loops.{plain-more, plain-all}
use Rattle.bank_prog_rows.proofs.owners.add_stays.Goals as goal

pub loop-x-preserved : goal.loop-x-preserved
loop-x-preserved c =
    plain-more (owners.value_stays (labels_view c.args.f.now.ssu.now) c.args.sdram c.args.r) c.args.xs.now c.loop-x.x-index _ c.loop-x.cs.items c.add_stay.new.cs.items
    (c.args.cs.now.items ++ flat_map (owners.value_stays (labels_view c.args.f.now.ssu.now) c.args.sdram c.args.r) c.args.xs.now) (omega arith) c.in_ok-add_stay.ensures c.loop-x.invariant

pub returns : goal.returns
returns c = plain-all (owners.value_stays (labels_view c.args.f.now.ssu.now) c.args.sdram c.args.r) c.args.xs.now c.loop-x.x-index c.loop-x.cs.items (c.args.cs.now.items ++ flat_map (owners.value_stays (labels_view c.args.f.now.ssu.now) c.args.sdram c.args.r) c.args.xs.now) (omega arith) c.loop-x.invariant
