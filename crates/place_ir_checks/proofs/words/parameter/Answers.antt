use Rattle.std.proofs.Common.{◌∙◌, sym, ap, Some, None, slice_index_or}
use Rattle.ssu_ir.proofs.Keeps.{view_at, some_from, none_from}
use Rattle.place_plan.specs.Fits.{label_param}
use Rattle.place_plan.proofs.PartSteps.{param-index}
use Rattle.place_ir_checks.proofs.words.parameter.Goals as goal

pub returns-in-Some : goal.returns-in-Some
returns-in-Some c =
    c.item.ensures
    ∙ ap (λ xs. slice_index_or xs c.args.i 0) c.deref-in-Some.ensures.value
    ∙ sym (param-index c.in-Some.label.now.params.items c.args.i)
    ∙ sym (ap (λ o. label_param o c.args.i) (view_at c.args.s.now _ c.args.l (Some c.in-Some.label.now) c.deref.ensures.value (some_from _ _ _ _ c.in-Some.ensures.lookup.0 c.in-Some.ensures.lookup.1)))

pub returns-in-None : goal.returns-in-None
returns-in-None c = sym (ap (λ o. label_param o c.args.i) (view_at c.args.s.now _ c.args.l None c.deref.ensures.value (none_from _ _ c.in-None.ensures.lookup.0)))
