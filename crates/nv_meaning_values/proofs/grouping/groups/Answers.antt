use Rattle.std.proofs.Common.{arith}
use Rattle.nv_meaning_values.proofs.Grouped.{groups-turn, groups-done}
use Rattle.nv_meaning_values.proofs.grouping.groups.Goals as goal

pub loop-decl-preserved : goal.loop-decl-preserved
loop-decl-preserved c =
    groups-turn c.args.decls.now c.loop-decl.decl-index c.decl-item.result c.loop-decl.groups.items c.add_group.new.groups.items _ c.loop-decl.next _ c.loop-decl-test.true c.decl-item.is c.in_ok-next.ensures c.loop-decl.invariant

pub returns : goal.returns
returns c =
    groups-done c.args.decls.now c.loop-decl.decl-index c.loop-decl.groups.items _ c.loop-decl.next (omega arith) c.loop-decl.invariant
