use Rattle.std.proofs.Common.{◌≡◌, take}
use Rattle.flow_ir.specs.Substitution.{look}
use Rattle.flow_merge.specs.inner.Copied.{all_named, undone}
use Rattle.flow_merge.proofs.names.set_operands.Given as goal

abbrev pub invariant-loop-i : goal.invariant-loop-i
invariant-loop-i l = (look l.names.items ≡ all_named (look l.initial.names.items) (take l.i l.xs) l.words) × (undone l.saved.items (look l.names.items) ≡ undone l.initial.saved.items (look l.initial.names.items))
