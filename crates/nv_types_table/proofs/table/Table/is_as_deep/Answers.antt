use Rattle.std.proofs.Common.{sym}
use Rattle.nv_types_table.proofs.RowEdges.{none_test, deep_start, deep_next, deep_short, deep_end}
use Rattle.nv_types_table.proofs.table.Table.is_as_deep.Goals as goal

pub loop-x-init : goal.loop-x-init
loop-x-init c = deep_start c.args.self.now c.args.a c.args.b

pub returns-in_default-halves : goal.returns-in_default-halves
returns-in_default-halves c =
    deep_short c.args.self.now c.args.a c.args.b c.loop-x.a c.loop-x.b _ _ c.loop-x.invariant (sym c.in-Some.ensures.value) (sym c.in_default-halves.ensures.value)

pub loop-x-smaller : goal.loop-x-smaller
loop-x-smaller c = c.in-Some.ensures.below.0

pub loop-x-preserved : goal.loop-x-preserved
loop-x-preserved c =
    deep_next c.args.self.now c.args.a c.args.b c.loop-x.a c.loop-x.b _ _ _ _ c.loop-x.invariant (sym c.in-Some.ensures.value) (sym c.in-Some-halves.ensures.value)

pub returns : goal.returns
returns c =
    deep_end c.args.self.now c.args.a c.args.b c.loop-x.a c.loop-x.b c.halves-2.result c.is_none.result c.loop-x.invariant (sym c.in_default.ensures.value) c.halves-2.ensures.value
    (none_test c.halves-2.result c.is_none.result c.is_none.ensures)
