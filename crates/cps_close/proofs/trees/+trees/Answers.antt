use Rattle.std.proofs.Common.{ap, ◌∙◌}
use Rattle.std.proofs.lemmas.Result.{IfOk-weaker}
use Rattle.cps_ir.specs.View.{term_view}
use Rattle.flow_ir.specs.Spine.{put_all}
use Rattle.cps_close.specs.inner.Closed.{tree_of}
use Rattle.cps_close.specs.inner.View.{table_view}
use Rattle.cps_close.proofs.Along.{on-let, on-read, on-write, on-if}
use Rattle.cps_close.proofs.trees.+trees.Goals as goal

pub tree_steps-spine-preserved-in-Let : goal.tree_steps-spine-preserved-in-Let
tree_steps-spine-preserved-in-Let t c = on-let c.in-Let.x c.in-Let.p c.in-Let.rest c.deref-cur.result.now c.push_step.new.steps.items c.spine.invariant c.in-Let.is c.deref-cur.ensures c.in_ok-push_step-in-Let.ensures

pub tree_steps-spine-preserved-in-Read : goal.tree_steps-spine-preserved-in-Read
tree_steps-spine-preserved-in-Read t c =
    on-read c.in-Read.m c.in-Read.xs c.in_ok-short_numbers-in-Read.field-0 c.in-Read.a c.in-Read.rest c.deref-cur-in-Read.result.now c.push_step-in-Read.new.steps.items c.spine.invariant c.in-Read.is c.deref-cur-in-Read.ensures c.in_ok-push_step-in-Read.ensures (c.in_ok-short_numbers-in-Read.ensures ∙ c.deref.ensures)

pub tree_steps-spine-preserved-in-Write : goal.tree_steps-spine-preserved-in-Write
tree_steps-spine-preserved-in-Write t c =
    on-write c.in-Write.m c.in-Write.a c.in-Write.bs c.in_ok-short_atoms-in-Write.field-0 c.in-Write.rest c.deref-cur-in-Write.result.now c.push_step-in-Write.new.steps.items c.spine.invariant c.in-Write.is c.deref-cur-in-Write.ensures c.in_ok-push_step-in-Write.ensures (c.in_ok-short_atoms-in-Write.ensures ∙ c.deref-in-Write.ensures)

pub tree_steps-spine-preserved-in-If : goal.tree_steps-spine-preserved-in-If
tree_steps-spine-preserved-in-If t c =
    on-if c.in-If.c c.in-If.a c.in-If.b c.in-If.first c.in-If.second c.deref-in-If.result.now c.deref-cur-in-If.result.now c.in_ok-u-in-If.u c.push_step-in-If.new.steps.items c.spine.invariant c.in-If.is c.deref-in-If.ensures c.deref-cur-in-If.ensures c.in_ok-u-in-If.ensures c.in_ok-push_step-in-If.ensures

pub tree_of-returns : goal.tree_of-returns
tree_of-returns t c = IfOk-weaker c.joined.result _ _ (λ u e. e ∙ c.in-Ok.ensures ∙ ap (λ l. put_all l (tree_of (table_view c.args.table.now) (term_view c.args.t.now))) c.new-steps.ensures.items) c.joined.ensures
