use Rattle.std.proofs.Common.{◌≡◌, ◌++◌, map, drop}
use Rattle.ssu_ir.specs.Work.{nums}
use Rattle.ssu_liveness.specs.inner.PointIds.{kind_of_point, node_places}
use Rattle.ssu_liveness.proofs.point_ids.push_nodes.Given as goal

abbrev pub invariant-loop-id : goal.invariant-loop-id
invariant-loop-id l =
    map (kind_of_point l.s) l.point_ids.items ++ node_places l.s.nodes.slots (nums (drop l.id-index l.order)) ≡ map (kind_of_point l.s) l.fn.point_ids.items ++ node_places l.s.nodes.slots (nums l.order)
