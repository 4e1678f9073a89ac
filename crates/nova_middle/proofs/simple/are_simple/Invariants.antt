use Rattle.std.proofs.Common.{take}
use Rattle.nova_middle.proofs.SimpleFlows.{AllSimple}
use Rattle.nova_middle.proofs.simple.are_simple.Given as goal

abbrev pub invariant-loop-l : goal.invariant-loop-l
invariant-loop-l l = AllSimple (take l.l-index l.labels)
