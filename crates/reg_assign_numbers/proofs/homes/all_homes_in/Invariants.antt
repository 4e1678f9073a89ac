use Rattle.std.proofs.Common.{◌≡◌, ◌++◌, map, drop, filter}
use Rattle.ssu_liveness.specs.LiveRows.{items_of}
use Rattle.reg_assign_reading.specs.ReadOff.{has_home}
use Rattle.reg_assign_reading.specs.inner.Reading.{says}
use Rattle.reg_assign_numbers.proofs.homes.all_homes_in.Given as goal

abbrev pub invariant-loop-row : goal.invariant-loop-row
invariant-loop-row l = items_of l.kept.items ++ map (filter (λ x. has_home (says l.r) x l.h)) (items_of (drop l.row-index l.rows)) ≡ map (filter (λ x. has_home (says l.r) x l.h)) (items_of l.rows)
