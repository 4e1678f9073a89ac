use Rattle.std.proofs.Common.{le_trans}
use Rattle.nv_base.proofs.Same.{keeps-trans}
use Rattle.nova_middle.proofs.CodeBound.{code_within}
use Rattle.nova_middle.proofs.Improved.{kept_as, kept_self, kept_either}
use Rattle.nova_middle.proofs.Whole.{if_ok}
use Rattle.nova_middle.proofs.last.with_literals.Goals as goal

pub returns-then-branch-clause-kept : goal.returns-then-branch-clause-kept
returns-then-branch-clause-kept c = kept_as _ _ _ _ (keeps-trans _ _ _ _ _ _ c.requires.kept c.in_ok-held.ensures.kept) c.in_ok-third.ensures.flow

pub returns-then-branch-clause-code : goal.returns-then-branch-clause-code
returns-then-branch-clause-code c = le_trans (code_within _) (c.in_ok-is_within.ensures.0 c.if-branch.true).2

pub returns-else-branch-clause-kept : goal.returns-else-branch-clause-kept
returns-else-branch-clause-kept c = if_ok c.chosen.result _ _ (λ l one. kept_either _ _ _ _ _ (kept_self _) c.requires.kept one) c.chosen.ensures.flow
