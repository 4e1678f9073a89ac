use Rattle.std.proofs.Common.{take}
use Rattle.flow_ir.specs.Substitution.{look, AreNamed}
use Rattle.flow_ir.proofs.names.name_all.Given as goal

abbrev pub invariant-loop-x : goal.invariant-loop-x
invariant-loop-x l = AreNamed (look l.initial.names.items) (take l.x-index l.xs) (look l.names.items)
