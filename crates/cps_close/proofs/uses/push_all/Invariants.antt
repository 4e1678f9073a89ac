use Rattle.std.proofs.Common.{◌≡◌, ◌++◌, take}
use Rattle.cps_close.proofs.uses.push_all.Given as goal

abbrev pub invariant-loop-x : goal.invariant-loop-x
invariant-loop-x l = l.v.items ≡ l.initial.v.items ++ take l.x-index l.xs
