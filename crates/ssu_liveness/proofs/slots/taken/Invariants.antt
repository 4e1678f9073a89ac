use Rattle.std.proofs.Common.{nat_eq}
use Rattle.std.specs.HashMap.{get}
use Rattle.ssu_liveness.proofs.Marks.{Marked}
use Rattle.ssu_liveness.proofs.slots.taken.Given as goal

abbrev pub invariant-loop-y : goal.invariant-loop-y
invariant-loop-y l = Marked (get nat_eq l.slots) l.row l.y-index l.marks.items
