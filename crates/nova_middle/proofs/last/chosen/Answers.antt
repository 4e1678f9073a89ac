use Rattle.std.proofs.Common.{le_trans}
use Rattle.nova_middle.proofs.CodeBound.{code_within}
use Rattle.nova_middle.proofs.last.chosen.Goals as goal

pub returns-then-branch-clause-code : goal.returns-then-branch-clause-code
returns-then-branch-clause-code c = le_trans (code_within _) (c.in_ok-is_within.ensures.0 c.if-branch.true).2
