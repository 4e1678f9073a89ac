use Rattle.zo_cert_tree.proofs.ReadMultipliers.{multipliers_all}
use Rattle.zo_cert_tree.proofs.MultiplierLemmas.{no_more_multiplier}
use Rattle.zo_cert_tree.proofs.multipliers.multipliers_of.Goals as goal

pub returns-in_default-multiplier_of-clause-none : goal.returns-in_default-multiplier_of-clause-none
returns-in_default-multiplier_of-clause-none c =
    no_more_multiplier _ _ _ _ _ _ c.loop-part.invariant c.in-Some.ensures c.in_default-multiplier_of.ensures.none

pub returns-clause-some : goal.returns-clause-some
returns-clause-some c = multipliers_all _ _ _ _ c.loop-part.invariant c.in_default.ensures.0
