use Rattle.std.proofs.Common.{drop}
use Rattle.std.specs.Prelude.{◌↔◌}
use Rattle.zo_model.specs.Program.{Rise}
use Rattle.zo_model.proofs.program.rise.Given as goal

abbrev pub invariant-loop-j : goal.invariant-loop-j
invariant-loop-j l = Rise l.next l.columns (drop l.j-index l.terms) ↔ Rise 0 l.columns l.terms
