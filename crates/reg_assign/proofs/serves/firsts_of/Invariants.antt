use Rattle.std.proofs.Common.{◌≡◌, ◌++◌, map, drop}
use Rattle.bank_prog_form.specs.inner.Form.{access_view}
use Rattle.reg_assign_reading.specs.ReadOff.{access_first}
use Rattle.reg_assign_reading.specs.inner.Reading.{says}
use Rattle.reg_assign.proofs.serves.firsts_of.Given as goal

abbrev pub invariant-loop-a : goal.invariant-loop-a
invariant-loop-a l = l.firsts.items ++ map (access_first (says l.r)) (map access_view (drop l.a-index l.accesses)) ≡ map (access_first (says l.r)) (map access_view l.accesses)
