use Rattle.std.proofs.Common.{◌∙◌, ◌+◌, ap, sym, subst, max, List, take, Vec, Global, []}
use Rattle.nv_types_table.specs.declared.needs.OpenNeed.{OpenNeed}
use Rattle.nv_types_table.specs.inner.Cells.{still}
use Rattle.nv_types_table.specs.inner.Needs.{held_for}
use Rattle.nv_types_table.proofs.BlockNeeds.{lets_of, HoldsLets, need_start, no_lets, need_step, need_end, let_held, no_let_held}
use Rattle.nv_types_table.proofs.needs.greatest_need.Goals as goal
use Rattle.nv_types_table.proofs.needs.greatest_need.Goals.{in-Some+in_ok-until+in_ok-push, in_default}

pub loop-step-init : goal.loop-step-init
loop-step-init c = λ xs first is.
    (need_start first xs c.args.steps.now c.args.last c.args.tail_need, subst (λ (hs : List OpenNeed). HoldsLets first xs [] hs) (sym c.new-held.ensures.items) (no_lets first xs))

pub loop-step-preserved : goal.loop-step-preserved
loop-step-preserved c = λ xs first is.
    let steps = c.args.steps.now in
    let i = c.loop-step.step-index in
    let s = c.step-item.result in
    let held = c.loop-step.held.items in
    let was = c.loop-step.invariant xs first is in (
      need_step first xs steps i s c.args.last c.args.tail_need c.loop-step.most c.pending.result c.max-most.result held c.loop-step-test.true c.step-item.is was.1 was.0
          (c.pending.ensures ∙ ap (λ (hs : List OpenNeed). still (held_for hs s.before)) c.deref.ensures.value) (c.max-most.ensures ∙ ap (max c.loop-step.most) c.saturating_add.ensures),
      elim c.match-step.branch [
        | in-Some+in_ok-until+in_ok-push w ↦
            let_held first xs steps i s held c.match-step.held.items w.in-Some.p w.in_ok-until.until c.loop-step-test.true c.step-item.is w.in-Some.is was.1
            (w.in_ok-until.ensures xs first is) (ap (λ (v : Vec OpenNeed Global). v.items) w.held-is ∙ w.in_ok-push.ensures.items)
        | in_default w ↦
            subst (λ (v : Vec OpenNeed Global). HoldsLets first xs (lets_of (take (i + 1) steps)) v.items) (sym w.held-is)
            (no_let_held first xs steps i s held c.loop-step-test.true c.step-item.is w.in_default.is was.1)
      ],
    )

pub returns : goal.returns
returns c = λ xs first is.
    let was = c.loop-step.invariant xs first is in
    c.max.ensures ∙ ap (max c.loop-step.most) c.saturating_add-2.ensures
    ∙ need_end first xs c.args.steps.now c.loop-step.step-index c.args.last c.args.tail_need c.loop-step.most c.pending-2.result c.loop-step.held.items c.loop-step-test.false was.1 was.0
    (c.pending-2.ensures ∙ ap (λ (hs : List OpenNeed). still (held_for hs c.args.last)) c.deref-2.ensures.value)
