use Rattle.std.proofs.Common.{le_trans}
use Rattle.nv_base.proofs.Measures.{most-trans}
use Rattle.nv_base.proofs.Same.{keeps-trans}
use Rattle.nova_middle.proofs.Whole.{equal_kept, if_ok}
use Rattle.nova_middle.proofs.program.contract_and_prune.Goals as goal
use Rattle.flow_ir.proofs.Results.{if_ok_both}

pub returns-clause-kept : goal.returns-clause-kept
returns-clause-kept c = if_ok_both c.prune.result _ _ _ (λ g params equal. keeps-trans _ _ _ _ _ _ c.in_ok-contracted.ensures.kept (equal_kept _ _ _ _ params equal)) c.prune.ensures.params c.prune.ensures.equal

pub returns-clause-contracted : goal.returns-clause-contracted
returns-clause-contracted c = if_ok c.prune.result _ _ (λ g still. still c.in_ok-contracted.ensures.contracted) c.prune.ensures.contracted

pub returns-clause-led : goal.returns-clause-led
returns-clause-led c = if_ok c.prune.result _ _ (λ g still. still c.in_ok-contracted.ensures.led) c.prune.ensures.led

pub returns-clause-wide : goal.returns-clause-wide
returns-clause-wide c = if_ok c.prune.result _ _ (λ g le. le_trans le c.in_ok-contracted.ensures.wide) c.prune.ensures.wide

pub returns-clause-bulk : goal.returns-clause-bulk
returns-clause-bulk c = if_ok c.prune.result _ _ (λ g le. most-trans _ _ _ le c.in_ok-contracted.ensures.bulk) c.prune.ensures.bulk
