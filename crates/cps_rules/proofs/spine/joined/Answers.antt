use Rattle.std.proofs.Common.{sym, ◌∙◌}
use Rattle.std.proofs.lemmas.List.{nil_from_length}
use Rattle.cps_rules.proofs.Back.{coming_start, coming_step, coming_tree}
use Rattle.cps_rules.proofs.spine.joined.Goals as goal

pub loop-s-init : goal.loop-s-init
loop-s-init c = coming_start _ _ _ c.requires.firsts c.requires.last

pub loop-s-preserved : goal.loop-s-preserved
loop-s-preserved c = coming_step _ c.in-Some.s _ _ c.loop-s.invariant c.in-Some.ensures.items c.in_ok-t.ensures.tree c.in_ok-t.ensures.marks

pub returns-clause-tree : goal.returns-clause-tree
returns-clause-tree c = coming_tree c.loop-s.invariant (nil_from_length c.loop-s.steps.items (sym c.loop-s.steps.ok.0 ∙ c.in_default.ensures.cases.0))

pub returns-clause-marks : goal.returns-clause-marks
returns-clause-marks c = c.loop-s.invariant.marked
