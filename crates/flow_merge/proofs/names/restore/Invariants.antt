use Rattle.std.proofs.Common.{◌≡◌, vec_len}
use Rattle.flow_ir.specs.Substitution.{look}
use Rattle.flow_merge.specs.inner.Copied.{undone}
use Rattle.flow_merge.proofs.names.restore.Given as goal

abbrev pub invariant-loop-s : goal.invariant-loop-s
invariant-loop-s l = undone l.saved.items (look l.names.items) ≡ undone l.initial.saved.items (look l.initial.names.items)

abbrev pub decreases-loop-s : goal.decreases-loop-s
decreases-loop-s l = vec_len l.saved
