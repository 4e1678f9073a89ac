use Rattle.std.proofs.Common.{◌≡◌, drop}
use Rattle.nv_base.specs.Words.{assigned_all}
use Rattle.ssu_ir.specs.inner.Running.{env_of}
use Rattle.ssu_ir.proofs.variables.assign_all.Given as goal

abbrev pub invariant-loop-i : goal.invariant-loop-i
invariant-loop-i l = assigned_all (env_of l.values) (drop l.i l.xs) (drop l.i l.ws) ≡ assigned_all (env_of l.initial.values) l.xs l.ws
