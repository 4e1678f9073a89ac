use Rattle.std.proofs.Common.{◌≡◌, take}
use Rattle.nv_meaning_values.proofs.trace.Trace.chain.Given as goal

abbrev pub invariant-loop-name : goal.invariant-loop-name
invariant-loop-name l = l.names.items ≡ take l.name-index l.name-items
