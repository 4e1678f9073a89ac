use Rattle.std.proofs.Common.{◌∙◌, ap}
use Rattle.std.specs.HashMap.{get_by}
use Rattle.bank_prog_form.proofs.Keys.{compare}
use Rattle.bank_prog_form.proofs.numbers.number.Goals as goal

pub returns : goal.returns
returns c = c.copied.ensures ∙ (c.get.ensures.value ∙ ap (λ f. get_by f c.args.numbers.now) (compare c.args.c))
