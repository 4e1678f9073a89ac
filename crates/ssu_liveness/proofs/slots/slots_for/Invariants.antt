use Rattle.std.proofs.Common.{nat_eq}
use Rattle.std.specs.HashMap.{get}
use Rattle.ssu_liveness.proofs.Numbering.{Giving}
use Rattle.ssu_liveness.proofs.slots.slots_for.Given as goal

abbrev pub invariant-loop-k : goal.invariant-loop-k
invariant-loop-k l = Giving l.s l.point_ids l.rows l.k (get nat_eq l.initial.slots) (get nat_eq l.slots)
