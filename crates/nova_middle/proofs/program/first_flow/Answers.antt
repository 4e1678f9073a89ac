use Rattle.std.proofs.Common.{le_trans}
use Rattle.nv_base.proofs.Measures.{most-trans}
use Rattle.flow_ir.proofs.Results.{if_ok_both}
use Rattle.nova_middle.proofs.Whole.{if_ok, first_kept}
use Rattle.nova_middle.proofs.program.first_flow.Goals as goal

pub returns-clause-kept : goal.returns-clause-kept
returns-clause-kept c = if_ok_both c.close.result _ _ _ (λ g params equal. first_kept _ _ _ _ _ _ _ _ c.in_ok-lowered.ensures.kept c.in_ok-inlined.ensures.kept params equal) c.close.ensures.parameters c.close.ensures.equal

pub returns-clause-wide : goal.returns-clause-wide
returns-clause-wide c = if_ok c.close.result _ _ (λ g le. le_trans le (le_trans c.in_ok-inlined.ensures.wide c.in_ok-lowered.ensures.wide)) c.close.ensures.wide

pub returns-clause-bulk : goal.returns-clause-bulk
returns-clause-bulk c = if_ok c.close.result _ _ (λ g le. most-trans _ _ _ le (most-trans _ _ _ c.in_ok-inlined.ensures.bulk c.in_ok-lowered.ensures.bulk)) c.close.ensures.bulk
