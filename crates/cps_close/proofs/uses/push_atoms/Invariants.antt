use Rattle.std.proofs.Common.{◌≡◌, ◌++◌, take}
use Rattle.nv_base.specs.Sets.{all_vars}
use Rattle.cps_close.proofs.uses.push_atoms.Given as goal

abbrev pub invariant-loop-a : goal.invariant-loop-a
invariant-loop-a l = l.v.items ≡ l.initial.v.items ++ all_vars (take l.a-index l.xs)
