use Rattle.std.proofs.Common.{arith}
use Rattle.zo_cert_tree.proofs.NodeLineLemmas.{no_branch}
use Rattle.zo_cert_tree.proofs.node_reader.branch_of.Goals as goal

pub returns-in_err-column-clause-none : goal.returns-in_err-column-clause-none
returns-in_err-column-clause-none c = rw c.from_residual.ensures (no_branch _ (λ j small e. c.in_err-column.ensures.none j (omega (arith, small)) e))
