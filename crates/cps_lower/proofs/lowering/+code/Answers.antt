use Rattle.std.proofs.Common.{ap, ◌∙◌}
use Rattle.std.proofs.lemmas.Result.{IfOk-weaker}
use Rattle.cps_ir.specs.Spine.{put_all}
use Rattle.cps_lower.specs.inner.Lowered.{lowered}
use Rattle.cps_lower.proofs.Along.{on_let, on_fetch, on_store, on_if, on_bind, on_try}
use Rattle.cps_lower.proofs.lowering.+code.Goals as goal

pub lower_steps-spine-preserved-in-Let : goal.lower_steps-spine-preserved-in-Let
lower_steps-spine-preserved-in-Let t c =
    on_let c.in-Let.x c.in-Let.p _ _ _ _ c.spine.invariant c.in-Let.is c.deref-cur.ensures c.in_ok-push_step-in-Let.ensures

pub lower_steps-spine-preserved-in-Fetch : goal.lower_steps-spine-preserved-in-Fetch
lower_steps-spine-preserved-in-Fetch t c =
    on_fetch c.in-Fetch.m c.in-Fetch.xs c.in_ok-short_numbers-in-Fetch.field-0 c.in-Fetch.a _ _ _ _ c.spine.invariant c.in-Fetch.is c.deref-cur-in-Fetch.ensures c.in_ok-push_step-in-Fetch.ensures (c.in_ok-short_numbers-in-Fetch.ensures ∙ c.deref.ensures)

pub lower_steps-spine-preserved-in-Store : goal.lower_steps-spine-preserved-in-Store
lower_steps-spine-preserved-in-Store t c =
    on_store c.in-Store.m c.in-Store.a c.in-Store.bs c.in_ok-short_atoms-in-Store.field-0 _ _ _ _ c.spine.invariant c.in-Store.is c.deref-cur-in-Store.ensures c.in_ok-push_step-in-Store.ensures (c.in_ok-short_atoms-in-Store.ensures ∙ c.deref-in-Store.ensures)

pub lower_steps-spine-preserved-in-If : goal.lower_steps-spine-preserved-in-If
lower_steps-spine-preserved-in-If t c =
    on_if c.in-If.c c.in-If.a c.in-If.b _ _ _ _ _ _ c.in_ok-u-in-If.u _ _ c.spine.invariant c.in-If.is c.deref-in-If.ensures c.deref-cur-in-If.ensures c.in_ok-u-in-If.ensures.count c.in_ok-u-in-If.ensures.term c.in_ok-push_step-in-If.ensures

pub lower_steps-spine-preserved-in-Bind : goal.lower_steps-spine-preserved-in-Bind
lower_steps-spine-preserved-in-Bind t c =
    on_bind c.in-Bind.xs c.in_ok-params-in-Bind.params _ _ _ _ _ _ c.in_ok-u-in-Bind.u _ _ _ _ c.spine.invariant c.in-Bind.is c.deref-in-Bind-2.ensures c.deref-cur-in-Bind.ensures c.in_ok-push_step-in-Bind.ensures (c.in_ok-params-in-Bind.ensures ∙ c.deref-in-Bind.ensures.value) c.in_ok-label-in-Bind.ensures.label c.in_ok-label-in-Bind.ensures.next c.in_ok-u-in-Bind.ensures.count c.in_ok-u-in-Bind.ensures.term

pub lower_steps-spine-preserved : goal.lower_steps-spine-preserved
lower_steps-spine-preserved t c =
    on_try c.in-Try.e c.in-Try.xs c.in_ok-params-in-Try.params _ _ _ _ _ _ _ c.in_ok-u-in-Try.u _ _ _ _ c.spine.invariant c.in-Try.is c.deref-in-Try-2.ensures c.deref-cur-in-Try.ensures c.in_ok-push_step-in-Try.ensures (c.in_ok-params-in-Try.ensures ∙ c.deref-in-Try.ensures) c.in_ok-label-in-Try.ensures.label c.in_ok-label-in-Try.ensures.next (c.deref-in-Try-3.ensures.value ∙ c.in_ok-inner-in-Try.ensures) c.in_ok-u-in-Try.ensures.count c.in_ok-u-in-Try.ensures.term

pub lower_code-returns-clause-count : goal.lower_code-returns-clause-count
lower_code-returns-clause-count t c = IfOk-weaker c.joined.result _ _ (λ u e. c.in-Ok.ensures.count) c.joined.ensures

pub lower_code-returns-clause-term : goal.lower_code-returns-clause-term
lower_code-returns-clause-term t c =
    IfOk-weaker c.joined.result _ _
    (λ u e. e ∙ c.in-Ok.ensures.term ∙ ap (λ l. put_all l (lowered c.args.funs.now c.args.own c.args.t.now c.args.fresh.now c.args.to c.args.hs.now)) c.new-steps.ensures.items) c.joined.ensures
