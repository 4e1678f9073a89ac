use Rattle.std.proofs.Common.{◌∙◌}
use Rattle.flow_merge.proofs.Cutting.{cut_let, cut_read, cut_write, cut_if}
use Rattle.flow_merge.proofs.pruning.+pruned.Goals as goal

pub spine-preserved-in-Let : goal.spine-preserved-in-Let
spine-preserved-in-Let t c = cut_let c.in-Let.x c.in-Let.p _ _ _ _ c.spine.invariant c.in-Let.is c.deref-cur.ensures c.in_ok-push-in-Let.ensures.items

pub spine-preserved-in-Read : goal.spine-preserved-in-Read
spine-preserved-in-Read t c =
    cut_read c.in-Read.m c.in-Read.xs c.in_ok-from_slice-in-Read.field-0 c.in-Read.a _ _ _ _ c.spine.invariant c.in-Read.is c.deref-cur-in-Read.ensures (c.in_ok-from_slice-in-Read.ensures.ok ∙ c.deref.ensures) c.in_ok-push-in-Read.ensures.items

pub spine-preserved-in-Write : goal.spine-preserved-in-Write
spine-preserved-in-Write t c =
    cut_write c.in-Write.m c.in-Write.a c.in-Write.bs c.in_ok-from_slice-in-Write.field-0 _ _ _ _ c.spine.invariant c.in-Write.is c.deref-cur-in-Write.ensures (c.in_ok-from_slice-in-Write.ensures.ok ∙ c.deref-in-Write.ensures) c.in_ok-push-in-Write.ensures.items

pub spine-preserved : goal.spine-preserved
spine-preserved t c =
    cut_if c.in-If.c c.in-If.a c.in-If.b _ _ _ _ c.deref-in-If.result.now _ c.in_ok-u-in-If.u _ c.spine.invariant c.in-If.is c.deref-in-If.ensures c.deref-cur-in-If.ensures c.in_ok-u-in-If.ensures c.in_ok-push-in-If.ensures.items
