use Rattle.nv_lines.proofs.LineLemmas.{lacks_take, lacks_all}
use Rattle.nv_lines.proofs.lines.split_once.Goals as goal

pub returns-in_err-at-clause-none : goal.returns-in_err-at-clause-none
returns-in_err-at-clause-none c = rw c.from_residual.ensures (lacks_all _ _ c.in_err-at.ensures)

pub returns-clause-first : goal.returns-clause-first
returns-clause-first c = lacks_take _ _ _ c.in_ok-at.ensures.0.before
