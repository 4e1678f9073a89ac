use Rattle.std.proofs.Common.{◌≡◌, map, take}
use Rattle.cps_ir.specs.View.{fun_view}
use Rattle.cps_lower.specs.inner.Lowered.{lowered_fun}
use Rattle.cps_lower.proofs.program.lower_all.Given as goal

abbrev pub invariant-loop-f : goal.invariant-loop-f
invariant-loop-f l = map fun_view l.v.items ≡ map (lowered_fun l.funs) (take l.f-index l.funs)
