use Rattle.std.proofs.Common.{sym, ap, ◌∙◌}
use Rattle.place_plan.specs.declared.place.First.{First}
use Rattle.ucode_emit.proofs.Cursored.{cut_some, cut_none, first_value, first_here}
use Rattle.ucode_emit.proofs.cursor.take_first.Goals as goal

pub returns-in-Some-clause-next : goal.returns-in-Some-clause-next
returns-in-Some-clause-next c = cut_some (λ (f : First). f.point) c.args.firsts.now c.args.at.now c.args.point c.in-Some.f c.requires c.in-Some.ensures

pub returns-in-Some-clause-value : goal.returns-in-Some-clause-value
returns-in-Some-clause-value c = sym (first_here c.args.firsts.now c.args.at.now c.args.point c.requires ∙ ap first_value (sym c.in-Some.ensures))

pub returns-in-None-clause-next : goal.returns-in-None-clause-next
returns-in-None-clause-next c = cut_none (λ (f : First). f.point) c.args.firsts.now c.args.at.now c.args.point c.requires c.in-None.ensures

pub returns-in-None-clause-value : goal.returns-in-None-clause-value
returns-in-None-clause-value c = sym (first_here c.args.firsts.now c.args.at.now c.args.point c.requires ∙ ap first_value (sym c.in-None.ensures))
