use Rattle.std.proofs.Common.{◌≡◌, false, take}
use Rattle.place_plan.specs.Fits.{is_slot}
use Rattle.std.specs.List.{list_any}
use Rattle.place_ir_checks.proofs.registers.has_slot.Given as goal

abbrev pub invariant-loop-q : goal.invariant-loop-q
invariant-loop-q l = list_any is_slot (take l.q-index l.qs) ≡ false
