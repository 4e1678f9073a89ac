use Rattle.std.proofs.Common.{drop}
use Rattle.std.specs.Prelude.{◌↔◌}
use Rattle.zo_model.specs.Program.{Rise}
use Rattle.zo_cert_tree.proofs.leaf.rise.Given as goal

abbrev pub invariant-loop-i : goal.invariant-loop-i
invariant-loop-i l = Rise l.next l.limit (drop l.i-index l.multipliers) ↔ Rise 0 l.limit l.multipliers
