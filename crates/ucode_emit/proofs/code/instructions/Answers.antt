use Rattle.std.proofs.Common.{sym, subst}
use Rattle.ssu_ir.specs.View.{labels_view}
use Rattle.place_plan.specs.Plan.{plan_view}
use Rattle.ucode_emit.specs.inner.Drafted.{AreDrafted}
use Rattle.ucode_emit.proofs.Whole.{emitted, placed}
use Rattle.ucode_emit.proofs.code.instructions.Goals as goal

pub returns : goal.returns
returns c =
    let labels = labels_view c.args.s.now in
    let p = plan_view c.args.p.now in
    let drafted = subst (λ code. AreDrafted labels p code c.in_ok-code.field-0.places.items c.in_ok-code.field-0.starts.items) (sym c.list.ensures) c.in_ok-code.ensures in
    emitted labels p c.list.result.now c.in_ok-list.list.items c.deref.result.now c.in_ok-code.field-0.starts.items (placed c.requires.single c.requires.fits)
    (subst (λ places. AreDrafted labels p c.list.result.now places c.in_ok-code.field-0.starts.items) (sym c.deref.ensures.value) drafted) c.in_ok-list.ensures
