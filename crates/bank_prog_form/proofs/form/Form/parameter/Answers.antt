use Rattle.std.proofs.Common.{◌∙◌, ap, sym, get_or, unwrap_or, Some, None, arith}
use Rattle.ssu_ir.proofs.Keeps.{view_at, some_from, none_from}
use Rattle.place_plan.specs.Fits.{label_param}
use Rattle.place_plan.proofs.PartSteps.{param-index}
use Rattle.bank_prog_form.proofs.form.Form.parameter.Goals as goal

pub returns-in-Some : goal.returns-in-Some
returns-in-Some c =
    let v = ap (λ o. label_param o c.args.i) (view_at c.args.self.now.ssu.now _ c.args.l (Some c.in-Some.l.now) c.deref.ensures.value (some_from _ _ _ _ c.in-Some.ensures.lookup.0 c.in-Some.ensures.lookup.1)) in
    c.unwrap_or.ensures ∙ ap (λ o. unwrap_or o 0) c.copied.ensures ∙ c.get-in-Some.ensures.lookup.4 (omega arith) 0
    ∙ ap (λ xs. get_or xs c.args.i 0) c.deref-in-Some.ensures.value ∙ sym (param-index c.in-Some.l.now.params.items c.args.i) ∙ sym v

pub returns-in-None : goal.returns-in-None
returns-in-None c = sym (ap (λ o. label_param o c.args.i) (view_at c.args.self.now.ssu.now _ c.args.l None c.deref.ensures.value (none_from _ _ c.in-None.ensures.lookup.0)))
