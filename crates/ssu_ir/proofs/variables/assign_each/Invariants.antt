use Rattle.std.proofs.Common.{◌≡◌, drop}
use Rattle.ssu_ir.specs.Meaning.{assigned_each}
use Rattle.ssu_ir.specs.inner.Running.{env_of}
use Rattle.ssu_ir.proofs.variables.assign_each.Given as goal

abbrev pub invariant-loop-x : goal.invariant-loop-x
invariant-loop-x l = assigned_each (env_of l.values) (drop l.x-index l.xs) l.w ≡ assigned_each (env_of l.initial.values) l.xs l.w
