use Rattle.std.proofs.Common.{◌∙◌, ap, min}
use Rattle.ssu_ir.specs.inner.Checks.{times_in}
use Rattle.ssu_ir.proofs.Searches.{added}
use Rattle.ssu_ir.proofs.single_use.times_in_label.Goals as goal

pub times_defined-in_body-requires : goal.times_defined-in_body-requires
times_defined-in_body-requires c = c.requires

pub returns : goal.returns
returns c = added _ _ _ _ _ (c.times-in_params.ensures ∙ ap (λ l. min 255 (times_in c.args.x l)) c.deref.ensures.value) c.times_defined-in_body.ensures c.saturating_add.ensures
