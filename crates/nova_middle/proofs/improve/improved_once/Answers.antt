use Rattle.nv_base.proofs.Same.{keeps-trans}
use Rattle.nova_middle.proofs.Improved.{equal_then, if_reduced}
use Rattle.nova_middle.proofs.Whole.{if_ok}
use Rattle.nova_middle.proofs.improve.improved_once.Goals as goal

pub returns-clause-kept : goal.returns-clause-kept
returns-clause-kept c =
    if_ok c.reduce.result _ _
    (λ g kept. equal_then _ _ _ (record { params = c.in_ok-simple.ensures.params; equal = c.in_ok-simple.ensures.equal })
    (equal_then _ _ _ (record { params = c.in_ok-sunk.ensures.params; equal = c.in_ok-sunk.ensures.equal })
    (equal_then _ _ _ (record { params = c.in_ok-ordered.ensures.params; equal = c.in_ok-ordered.ensures.equal }) (keeps-trans _ _ _ _ _ _ c.in_ok-decided.ensures.kept kept))))
    c.reduce.ensures.kept

pub returns-clause-reduced : goal.returns-clause-reduced
returns-clause-reduced c = if_reduced c.reduce.result c.reduce.ensures.contracted c.reduce.ensures.led c.reduce.ensures.wanted c.reduce.ensures.rules c.reduce.ensures.tidy
