use Rattle.std.proofs.Common.{refl}
use Rattle.std.proofs.lemmas.Bool.{or_left, or_right, or_from}
use Rattle.flow_merge.proofs.Asking.{sought_let, sought_write, sought_if, sought_if_operand, sought_if_first, sought_jump}
use Rattle.flow_merge.proofs.params_checks.+is_found.Goals.{then-in_atom-3-via-then-in_atom-3, then-in_atom-3-via-else-in_atom-3+then-in_atom-4, then-in_atom-3-via-else-in_atom-3+else-in_atom-4+then-is_found}
use Rattle.flow_merge.proofs.params_checks.+is_found.Goals as goal

pub spine-preserved-in-Let : goal.spine-preserved-in-Let
spine-preserved-in-Let t c = sought_let _ _ _ _ _ _ c.spine.invariant c.in-Let.is c.deref-cur.ensures c.in_prim.ensures c.if-in_prim.false

pub spine-preserved-in-Write : goal.spine-preserved-in-Write
spine-preserved-in-Write t c = sought_write _ _ _ _ _ _ _ _ _ c.spine.invariant c.in-Write.is c.deref-cur-in-Write.ensures c.deref.ensures c.in_atom-in-Write.ensures c.in_all.ensures c.if-in_atom-2.false c.if-in_all.false

pub returns-then-in_atom-3 : goal.returns-then-in_atom-3
returns-then-in_atom-3 t c = elim c.then-in_atom-3.branch [
  | then-in_atom-3-via-then-in_atom-3 w ↦ sought_if_operand _ _ _ _ _ _ _ _ _ c.spine.invariant c.in-If.is c.in_atom-in-If.ensures refl (or_left c.in_atom-in-If.result _ w.if-in_atom-3.true)
  | then-in_atom-3-via-else-in_atom-3+then-in_atom-4 w ↦ sought_if_operand _ _ _ _ _ _ _ _ _ c.spine.invariant c.in-If.is c.in_atom-in-If.ensures w.in_atom-else-in_atom-3.ensures (or_right c.in_atom-in-If.result w.in_atom-else-in_atom-3.result w.if-in_atom-4.true)
  | then-in_atom-3-via-else-in_atom-3+else-in_atom-4+then-is_found w ↦ sought_if_first _ _ _ _ _ _ _ _ c.spine.invariant c.in-If.is w.deref-else-in_atom-4.ensures (w.is_found.ensures.0 w.if-is_found.true)
]

pub spine-preserved : goal.spine-preserved
spine-preserved t c = sought_if _ _ _ _ _ _ _ _ _ _ _ _ c.spine.invariant c.in-If.is c.deref-else-in_atom-4.ensures c.deref-cur-in-If.ensures c.in_atom-in-If.ensures c.in_atom-else-in_atom-3.ensures c.is_found.ensures (or_from _ _ (or_from _ _ c.if-in_atom-3.false c.if-in_atom-4.false) c.if-is_found.false)

pub returns-in-Jump : goal.returns-in-Jump
returns-in-Jump t c = sought_jump _ _ _ _ c.spine.invariant c.in-Jump.is c.deref-in-Jump.ensures.value c.is_handed.ensures
