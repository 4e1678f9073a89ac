use Rattle.std.proofs.Common.{sym}
use Rattle.nv_types_table.proofs.RowEdges.{edge_start, edge_next, edge_end}
use Rattle.nv_types_table.proofs.table.Table.edge.Goals as goal

pub loop-left-init : goal.loop-left-init
loop-left-init c = edge_start c.args.self.now c.args.list c.new-rows.result.items c.new-rows.ensures.items

pub loop-left-smaller : goal.loop-left-smaller
loop-left-smaller c = c.in-Some.ensures.below.1

pub loop-left-preserved : goal.loop-left-preserved
loop-left-preserved c =
    edge_next c.args.self.now c.args.list c.loop-left.rows.items c.push.new.self.items c.loop-left.last _ _ c.loop-left.invariant (sym c.in-Some.ensures.value) c.in_ok-push.ensures.items

pub returns : goal.returns
returns c = edge_end c.args.self.now c.args.list c.loop-left.rows.items c.loop-left.last c.loop-left.invariant (sym c.in_default.ensures.value)
