use Rattle.std.proofs.Common.{le_trans}
use Rattle.nv_base.proofs.Measures.{most-trans}
use Rattle.nv_base.proofs.Same.{keeps-trans}
use Rattle.nova_middle.proofs.Whole.{if_ok}
use Rattle.nova_middle.proofs.program.to_flow.Goals as goal

pub returns-clause-kept : goal.returns-clause-kept
returns-clause-kept c = if_ok c.reduce.result _ _ (λ g kept. keeps-trans _ _ _ _ _ _ c.in_ok-first.ensures.kept kept) c.reduce.ensures.kept

pub returns-clause-wide : goal.returns-clause-wide
returns-clause-wide c = if_ok c.reduce.result _ _ (λ g le. le_trans le c.in_ok-first.ensures.wide) c.reduce.ensures.wide

pub returns-clause-bulk : goal.returns-clause-bulk
returns-clause-bulk c = if_ok c.reduce.result _ _ (λ g le. most-trans _ _ _ le c.in_ok-first.ensures.bulk) c.reduce.ensures.bulk
