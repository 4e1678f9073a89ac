use Rattle.std.proofs.Common.{◌≡◌, take}
use Rattle.nv_flatten_values.proofs.parts.short_vars.Given as goal

abbrev pub invariant-loop-x : goal.invariant-loop-x
invariant-loop-x l = l.list.items ≡ take l.x-index l.vars
