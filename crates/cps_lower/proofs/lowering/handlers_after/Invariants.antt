use Rattle.std.proofs.Common.{◌≡◌, ◌++◌, take}
use Rattle.cps_lower.proofs.lowering.handlers_after.Given as goal

abbrev pub invariant-loop-h : goal.invariant-loop-h
invariant-loop-h l = l.v.items ≡ l.fn.v.items ++ take l.h-index l.hs
