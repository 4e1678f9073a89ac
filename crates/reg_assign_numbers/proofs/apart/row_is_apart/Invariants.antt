use Rattle.std.proofs.Common.{nat_eq, take}
use Rattle.std.specs.HashMap.{get}
use Rattle.reg_assign_numbers.proofs.Telling.{Told}
use Rattle.reg_assign_numbers.proofs.apart.row_is_apart.Given as goal

abbrev pub invariant-loop-x : goal.invariant-loop-x
invariant-loop-x l = Told (get nat_eq l.numbers) l.limit (take l.x-index l.row) l.seen.items
