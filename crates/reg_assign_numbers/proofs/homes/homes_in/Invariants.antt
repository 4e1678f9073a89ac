use Rattle.std.proofs.Common.{◌≡◌, take, filter}
use Rattle.reg_assign_reading.specs.ReadOff.{has_home}
use Rattle.reg_assign_reading.specs.inner.Reading.{says}
use Rattle.reg_assign_numbers.proofs.homes.homes_in.Given as goal

abbrev pub invariant-loop-x : goal.invariant-loop-x
invariant-loop-x l = l.kept.items ≡ filter (λ x. has_home (says l.r) x l.h) (take l.x-index l.row)
