use Rattle.std.proofs.Common.{◌∙◌}
use Rattle.flow_literals.proofs.Walks.{hoist_let, hoist_read, hoist_write, hoist_if}
use Rattle.flow_literals.proofs.hoisting.+hoisted.Goals as goal

pub spine-preserved-in-Let : goal.spine-preserved-in-Let
spine-preserved-in-Let t c = hoist_let c.in-Let.x c.in-Let.p c.prim_at.result _ _ _ _ c.spine.invariant c.in-Let.is c.deref-cur.ensures c.prim_at.ensures c.in_ok-push_step-in-Let.ensures

pub spine-preserved-in-Read : goal.spine-preserved-in-Read
spine-preserved-in-Read t c =
    hoist_read c.in-Read.m c.in-Read.xs c.in_ok-xs-in-Read.xs c.in-Read.a c.address_at.result _ _ _ _ c.spine.invariant c.in-Read.is c.deref-cur-in-Read.ensures (c.in_ok-xs-in-Read.ensures ∙ c.deref.ensures) c.address_at.ensures c.in_ok-push_step-in-Read.ensures

pub spine-preserved-in-Write : goal.spine-preserved-in-Write
spine-preserved-in-Write t c =
    hoist_write c.in-Write.m c.in-Write.a c.address_at-in-Write.result c.in-Write.bs c.in_ok-bs-in-Write.bs _ _ _ _ c.spine.invariant c.in-Write.is c.deref-cur-in-Write.ensures (c.in_ok-bs-in-Write.ensures ∙ c.deref-in-Write.ensures) c.address_at-in-Write.ensures c.in_ok-push_step-in-Write.ensures

pub spine-preserved : goal.spine-preserved
spine-preserved t c =
    hoist_if c.in-If.c c.in-If.a c.in-If.b c.test_at-left.result c.test_at-right.result _ _ _ _ c.deref-in-If.result.now _ c.in_ok-u-in-If.u _ c.spine.invariant c.in-If.is c.deref-in-If.ensures c.deref-cur-in-If.ensures c.in_ok-u-in-If.ensures c.test_at-left.ensures c.test_at-right.ensures c.in_ok-push_step-in-If.ensures
