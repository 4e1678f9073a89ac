use Rattle.std.proofs.Common.{◌≡◌, drop}
use Rattle.nv_base.specs.Sets.{is_in, all_vars}
use Rattle.flow_ir.proofs.uses.in_all.Given as goal

abbrev pub invariant-loop-b : goal.invariant-loop-b
invariant-loop-b l = is_in l.x (all_vars (drop l.b-index l.bs)) ≡ is_in l.x (all_vars l.bs)
