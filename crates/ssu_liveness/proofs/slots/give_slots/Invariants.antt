use Rattle.std.proofs.Common.{nat_eq, take}
use Rattle.std.specs.HashMap.{get}
use Rattle.ssu_liveness.specs.inner.Numbers.{Numbered}
use Rattle.ssu_liveness.proofs.slots.give_slots.Given as goal

abbrev pub invariant-loop-x : goal.invariant-loop-x
invariant-loop-x l = Numbered (get nat_eq l.fn.slots) (take l.x-index l.values) l.row (get nat_eq l.slots)
