use Rattle.std.proofs.Common.{◌≡◌, false, take}
use Rattle.place_plan.specs.Places.{same_place}
use Rattle.std.specs.List.{list_any}
use Rattle.place_ir_checks.proofs.registers.among.Given as goal

abbrev pub invariant-loop-r : goal.invariant-loop-r
invariant-loop-r l = list_any (same_place l.q) (take l.r-index l.qs) ≡ false
