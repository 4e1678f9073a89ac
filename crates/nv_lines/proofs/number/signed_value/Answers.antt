use Rattle.nv_lines.proofs.NumberLemmas.{no_signed}
use Rattle.nv_lines.proofs.number.signed_value.Goals as goal

pub returns-in_err-n-clause-none : goal.returns-in_err-n-clause-none
returns-in_err-n-clause-none c = rw c.from_residual.ensures (no_signed _ c.in_default.ensures c.in_err-n.ensures.none)
