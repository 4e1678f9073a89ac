use Rattle.std.proofs.Common.{sym, ap, ◌∙◌}
use Rattle.place_plan.specs.declared.place.Pass.{Pass}
use Rattle.ucode_emit.proofs.Cursored.{cut_some, cut_none, pass_value, pass_here}
use Rattle.ucode_emit.proofs.cursor.take_pass.Goals as goal

pub returns-in-Some-clause-next : goal.returns-in-Some-clause-next
returns-in-Some-clause-next c = cut_some (λ (q : Pass). q.point) c.args.passes.now c.args.at.now c.args.point c.in-Some.q c.requires c.in-Some.ensures

pub returns-in-Some-clause-value : goal.returns-in-Some-clause-value
returns-in-Some-clause-value c = sym (pass_here c.args.passes.now c.args.at.now c.args.point c.requires ∙ ap (pass_value c.args.point) (sym c.in-Some.ensures))

pub returns-in-None-clause-next : goal.returns-in-None-clause-next
returns-in-None-clause-next c = cut_none (λ (q : Pass). q.point) c.args.passes.now c.args.at.now c.args.point c.requires c.in-None.ensures

pub returns-in-None-clause-value : goal.returns-in-None-clause-value
returns-in-None-clause-value c = sym (pass_here c.args.passes.now c.args.at.now c.args.point c.requires ∙ ap (pass_value c.args.point) (sym c.in-None.ensures))
