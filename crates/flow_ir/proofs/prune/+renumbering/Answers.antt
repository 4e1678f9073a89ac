use Rattle.std.proofs.Common.{ap, ◌∙◌}
use Rattle.std.proofs.lemmas.Result.{IfOk-weaker}
use Rattle.std.specs.Prelude.{slice_index_or}
use Rattle.flow_ir.specs.Spine.{put_all}
use Rattle.flow_ir.specs.View.{tree_view}
use Rattle.flow_ir.specs.inner.Pruned.{renumbered}
use Rattle.flow_ir.proofs.Renumbering.{made-let, made-read, made-write, made-if}
use Rattle.flow_ir.proofs.prune.+renumbering.Goals as goal

pub renumbered_steps-spine-preserved-in-Let : goal.renumbered_steps-spine-preserved-in-Let
renumbered_steps-spine-preserved-in-Let t c = made-let c.in-Let.x c.in-Let.p _ _ _ _ c.spine.invariant c.in-Let.is c.deref-cur.ensures c.in_ok-push_step-in-Let.ensures

pub renumbered_steps-spine-preserved-in-Read : goal.renumbered_steps-spine-preserved-in-Read
renumbered_steps-spine-preserved-in-Read t c =
    made-read c.in-Read.m c.in-Read.xs c.in_ok-short_numbers-in-Read.field-0 c.in-Read.a _ _ _ _ c.spine.invariant c.in-Read.is c.deref-cur-in-Read.ensures c.in_ok-push_step-in-Read.ensures (c.in_ok-short_numbers-in-Read.ensures ∙ c.deref.ensures)

pub renumbered_steps-spine-preserved-in-Write : goal.renumbered_steps-spine-preserved-in-Write
renumbered_steps-spine-preserved-in-Write t c =
    made-write c.in-Write.m c.in-Write.a c.in-Write.bs c.in_ok-short_atoms-in-Write.field-0 _ _ _ _ c.spine.invariant c.in-Write.is c.deref-cur-in-Write.ensures c.in_ok-push_step-in-Write.ensures (c.in_ok-short_atoms-in-Write.ensures ∙ c.deref-in-Write.ensures)

pub renumbered_steps-spine-preserved : goal.renumbered_steps-spine-preserved
renumbered_steps-spine-preserved t c =
    made-if c.in-If.c c.in-If.a c.in-If.b _ _ _ _ c.deref-in-If.result.now _ c.in_ok-u-in-If.u _ c.spine.invariant c.in-If.is c.deref-in-If.ensures c.deref-cur-in-If.ensures c.in_ok-u-in-If.ensures c.in_ok-push_step-in-If.ensures

pub renumbered-returns : goal.renumbered-returns
renumbered-returns t c = IfOk-weaker c.joined.result _ _ (λ u e. e ∙ c.in-Ok.ensures ∙ ap (λ l. put_all l (renumbered (λ i. slice_index_or c.args.to.now i 0) (tree_view c.args.t.now))) c.new-steps.ensures.items) c.joined.ensures
