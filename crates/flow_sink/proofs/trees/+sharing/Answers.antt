use Rattle.std.proofs.Common.{◌∙◌}
use Rattle.flow_sink.proofs.Along.{along_let, along_read, along_write, along_if}
use Rattle.flow_sink.proofs.trees.+sharing.Goals as goal

pub shared_steps-spine-preserved-in-Let : goal.shared_steps-spine-preserved-in-Let
shared_steps-spine-preserved-in-Let t c = along_let c.in-Let.x c.in-Let.p _ _ _ _ _ c.spine.invariant c.in-Let.is c.deref-cur.ensures c.in_ok-share_let-in-Let.ensures.step c.in_ok-share_let-in-Let.ensures.above

pub shared_steps-spine-preserved-in-Read : goal.shared_steps-spine-preserved-in-Read
shared_steps-spine-preserved-in-Read t c =
    along_read c.in-Read.m c.in-Read.xs c.in_ok-short_numbers-in-Read.field-0 c.in-Read.a _ _ _ _ c.spine.invariant c.in-Read.is c.deref-cur-in-Read.ensures c.in_ok-push_step-in-Read.ensures (c.in_ok-short_numbers-in-Read.ensures ∙ c.deref.ensures)

pub shared_steps-spine-preserved-in-Write : goal.shared_steps-spine-preserved-in-Write
shared_steps-spine-preserved-in-Write t c =
    along_write c.in-Write.m c.in-Write.a c.in-Write.bs c.in_ok-short_atoms-in-Write.field-0 _ _ _ _ c.spine.invariant c.in-Write.is c.deref-cur-in-Write.ensures c.in_ok-push_step-in-Write.ensures (c.in_ok-short_atoms-in-Write.ensures ∙ c.deref-in-Write.ensures)

pub shared_steps-spine-preserved : goal.shared_steps-spine-preserved
shared_steps-spine-preserved t c =
    along_if c.in-If.c c.in-If.a c.in-If.b _ _ _ _ c.deref-in-If.result.now _ c.in_ok-u-in-If.u _ _ c.spine.invariant c.in-If.is c.deref-in-If.ensures c.deref-cur-in-If.ensures c.in_ok-u-in-If.ensures.tree c.in_ok-u-in-If.ensures.above c.in_ok-push_step-in-If.ensures
