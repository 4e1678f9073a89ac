use Rattle.std.proofs.Common.{◌∙◌}
use Rattle.nova_middle.proofs.Improved.{if_equal}
use Rattle.nova_middle.proofs.Whole.{if_ok}
use Rattle.nova_middle.proofs.improve.shared_words.Goals as goal

pub returns-clause-params : goal.returns-clause-params
returns-clause-params c = if_ok c.all_shared.result _ _ (λ g e. e ∙ c.in_ok-simple.ensures.params) c.all_shared.ensures.params

pub returns-clause-equal : goal.returns-clause-equal
returns-clause-equal c = if_equal _ _ c.all_shared.result (record { params = c.in_ok-simple.ensures.params; equal = c.in_ok-simple.ensures.equal }) c.all_shared.ensures.params c.all_shared.ensures.equal
