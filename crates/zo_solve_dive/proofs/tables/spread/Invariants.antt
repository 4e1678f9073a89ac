use Rattle.std.proofs.Common.{take}
use Rattle.zo_solve_dive.specs.inner.Keeping.{IsSpread}
use Rattle.zo_solve_dive.proofs.tables.spread.Given as goal

abbrev pub invariant-loop-j : goal.invariant-loop-j
invariant-loop-j l = IsSpread l.row (take l.j-index l.terms) l.initial.columns l.columns
