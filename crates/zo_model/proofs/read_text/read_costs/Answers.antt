use Rattle.std.proofs.Common.{arith}
use Rattle.zo_model.proofs.LineLemmas.{no_line_other}
use Rattle.zo_model.proofs.read_text.read_costs.Goals as goal

pub returns-in_default-clause-err : goal.returns-in_default-clause-err
returns-in_default-clause-err c = (
  c.loop.costs.items,
  omega (arith, c.in_ok-line.ensures.number, c.loop.invariant.1.counted),
  record { rest = c.loop.reader.lines; fewer = omega (arith, c.loop.invariant.0); fit = c.loop.invariant.1.fit; spelled = c.loop.invariant.1.spelled; no_line = no_line_other _ _ _ _ c.in_ok-line.ensures.line c.in_ok-line.ensures.one c.in_default.ensures.none },
)
