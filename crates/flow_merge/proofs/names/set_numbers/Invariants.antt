use Rattle.std.proofs.Common.{take}
use Rattle.flow_ir.specs.Substitution.{look}
use Rattle.flow_merge.proofs.Naming.{Set}
use Rattle.flow_merge.proofs.names.set_numbers.Given as goal

abbrev pub invariant-loop-x : goal.invariant-loop-x
invariant-loop-x l = Set (look l.initial.names.items) l.initial.fresh l.initial.saved.items (take l.x-index l.xs) (look l.names.items) l.fresh l.saved.items l.v.items
