use Rattle.std.proofs.Common.{◌∙◌, ap, ◌++◌}
use Rattle.std.specs.List.{flat_map}
use Rattle.bank_prog_form.specs.Columns.{eight}
use Rattle.bank_prog_form.specs.inner.Form.{beginning}
use Rattle.bank_prog_form.proofs.Loops.{beginnings-filter}
use Rattle.bank_prog_form.proofs.runs.beginnings.Goals as goal

pub returns : goal.returns
returns c = c.in_ok-push_beginnings.ensures ∙ ap (λ o. o ++ flat_map (beginning c.args.m c.args.n) eight) c.new-fs.ensures.items ∙ beginnings-filter c.args.m c.args.n eight
