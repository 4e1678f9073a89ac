use Rattle.std.proofs.Common.{ap, arith}
use Rattle.flow_ir.specs.Formed.{defined}
use Rattle.flow_ir.specs.View.{tree_view}
use Rattle.flow_literals.proofs.Walks.{above_let, above_read, above_write, above_if, above_end}
use Rattle.flow_literals.proofs.names.+above_tree.Goals as goal

pub spine-preserved-in-Let : goal.spine-preserved-in-Let
spine-preserved-in-Let t c =
    let le = c.spine.invariant.0 in
    let more = c.in_ok-most-in-Let.ensures.more in
    (omega (arith, le, more), above_let c.in-Let.x c.in-Let.field-1 _ _ _ _ c.spine.invariant.1 c.in-Let.is c.deref-cur.ensures more c.in_ok-most-in-Let.ensures.above)

pub spine-preserved-in-Read : goal.spine-preserved-in-Read
spine-preserved-in-Read t c =
    let le = c.spine.invariant.0 in
    let more = c.in_ok-most-in-Read.ensures.more in
    (omega (arith, le, more), above_read c.in-Read.field-0 c.in-Read.xs c.in-Read.field-2 _ _ _ _ _ c.spine.invariant.1 c.in-Read.is c.deref-cur-in-Read.ensures c.deref.ensures more c.in_ok-most-in-Read.ensures.above)

pub spine-preserved-in-Write : goal.spine-preserved-in-Write
spine-preserved-in-Write t c = (c.spine.invariant.0, above_write c.in-Write.field-0 c.in-Write.field-1 c.in-Write.field-2 _ _ _ c.spine.invariant.1 c.in-Write.is c.deref-cur-in-Write.ensures)

pub spine-preserved : goal.spine-preserved
spine-preserved t c =
    let le = c.spine.invariant.0 in
    let more = c.in_ok-most-in-If.ensures.more in
    (omega (arith, le, more), above_if c.in-If.field-0 c.in-If.field-1 c.in-If.field-2 _ _ _ _ c.deref-in-If.result.now _ _ c.spine.invariant.1 c.in-If.is c.deref-in-If.ensures c.deref-cur-in-If.ensures more c.in_ok-most-in-If.ensures.above)

pub returns-in-Jump-clause-above : goal.returns-in-Jump-clause-above
returns-in-Jump-clause-above t c = above_end c.spine.invariant.1 (ap (λ z. defined (tree_view z)) c.in-Jump.is)

pub returns-in-Halt-clause-above : goal.returns-in-Halt-clause-above
returns-in-Halt-clause-above t c = above_end c.spine.invariant.1 (ap (λ z. defined (tree_view z)) c.in-Halt.is)
