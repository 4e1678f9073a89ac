use Rattle.std.proofs.Common.{◌∙◌, sym, ap, refl, pos}
use Rattle.std.specs.HashMap.{get}
use Rattle.bank_prog_form.specs.Program.{same_column}
use Rattle.bank_prog_form.specs.Rows as lines
use Rattle.bank_prog_form.specs.inner.Adds as adds
use Rattle.bank_prog_form.proofs.RowTerms.{terms-alone}
use Rattle.bank_prog_form.proofs.Loops.{pushed}
use Rattle.bank_prog_form.proofs.lines.push_one_at_least.Goals as goal

pub returns : goal.returns
returns c =
    let number = get same_column c.args.numbers.now in
    let terms = c.in_ok-add_each.ensures.terms ∙ ap (λ ts. adds.add_each number (pos 1) c.args.cs.now ts) c.new-terms.ensures.items ∙ sym (terms-alone number (pos 1) c.args.cs.now) in
    let p = c.in_ok-push.ensures.items in
    pushed number c.args.rows.now.items c.push.new.self.items _ (lines.at_least 1 c.args.cs.now) c.in_ok-push.ensures.items terms refl
