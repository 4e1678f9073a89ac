use Rattle.std.proofs.Common.{◌∙◌, ap, sym}
use Rattle.nv_meaning_values.specs.Operators.{shifted}
use Rattle.nv_meaning_values.proofs.Shifts.{left-out, right-out, rotate-out}
use Rattle.nv_meaning_values.proofs.operators.shifted_out.Goals as goal

pub returns-in-Left : goal.returns-in-Left
returns-in-Left c = λ n far. left-out n c.args.x far ∙ ap (λ op. shifted op n c.args.x) (sym c.in-Left.is)

pub returns-in-Right : goal.returns-in-Right
returns-in-Right c = λ n far. right-out n c.args.x far c.ranges.x.fits ∙ ap (λ op. shifted op n c.args.x) (sym c.in-Right.is)

pub returns-in-Rotate : goal.returns-in-Rotate
returns-in-Rotate c = λ n far. rotate-out n c.args.x far ∙ ap (λ op. shifted op n c.args.x) (sym c.in-Rotate.is)
