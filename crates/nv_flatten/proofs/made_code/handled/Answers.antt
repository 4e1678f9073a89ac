use Rattle.std.proofs.Common.{◌∙◌, ap, subst, option_map}
use Rattle.nv_flatten_values.specs.inner.View.{view}
use Rattle.nv_flatten.specs.inner.Handled.{IsHandled}
use Rattle.nv_flatten.proofs.EndArms.{view-or}
use Rattle.nv_flatten.proofs.made_code.handled.Goals as goal

pub returns : goal.returns
returns c = (
  subst (λ vars. IsHandled c.args.caught.number vars c.args.body.code c.args.handler.code c.in-Ok.found) c.deref.ensures.value c.in-Ok.ensures,
  ap (λ o. option_map view o) c.or-form.ensures ∙ view-or c.args.body.form c.args.handler.form,
)
