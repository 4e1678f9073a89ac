use Rattle.std.proofs.Common.{◌∙◌}
use Rattle.nova_middle.proofs.Improved.{if_equal}
use Rattle.nova_middle.proofs.Whole.{if_ok}
use Rattle.nova_middle.proofs.improve.shared_once.Goals as goal

pub returns-clause-params : goal.returns-clause-params
returns-clause-params c = if_ok c.simplified.result _ _ (λ g e. e ∙ c.in_ok-shared.ensures.params) c.simplified.ensures.params

pub returns-clause-equal : goal.returns-clause-equal
returns-clause-equal c = if_equal _ _ c.simplified.result (record { params = c.in_ok-shared.ensures.params; equal = c.in_ok-shared.ensures.equal }) c.simplified.ensures.params c.simplified.ensures.equal
