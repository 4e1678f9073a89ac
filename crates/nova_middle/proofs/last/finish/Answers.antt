use Rattle.nv_base.proofs.Same.{keeps-trans}
use Rattle.nova_middle.proofs.Improved.{below_width, size_below, length_below, above_width, size_above, length_above}
use Rattle.nova_middle.proofs.Whole.{if_ok}
use Rattle.nova_middle.proofs.last.finish.Goals as goal

pub with_literals-requires-clause-reduced : goal.with_literals-requires-clause-reduced
with_literals-requires-clause-reduced c = record { contracted = c.in_ok-flow.ensures.contracted; led = c.in_ok-flow.ensures.led; wanted = c.in_ok-flow.ensures.wanted; rules = c.in_ok-flow.ensures.rules; tidy = c.in_ok-flow.ensures.tidy }

pub with_literals-requires-clause-peak : goal.with_literals-requires-clause-peak
with_literals-requires-clause-peak c = below_width _ _ _ c.in_ok-bounds.ensures.peak c.in_ok-flow.ensures.wide

pub with_literals-requires-clause-size : goal.with_literals-requires-clause-size
with_literals-requires-clause-size c = size_below _ _ _ _ _ c.in_ok-bounds.ensures.size c.in_ok-flow.ensures.wide c.in_ok-flow.ensures.bulk

pub with_literals-requires-clause-code : goal.with_literals-requires-clause-code
with_literals-requires-clause-code c = length_below _ _ _ _ _ c.in_ok-bounds.ensures.length c.in_ok-flow.ensures.wide c.in_ok-flow.ensures.bulk

pub returns-clause-kept : goal.returns-clause-kept
returns-clause-kept c = if_ok c.with_literals.result _ _ (λ l kept. keeps-trans _ _ _ _ _ _ (keeps-trans _ _ _ _ _ _ c.in_ok-first.ensures.kept c.in_ok-flow.ensures.kept) kept) c.with_literals.ensures.kept

pub returns-clause-peak : goal.returns-clause-peak
returns-clause-peak c = if_ok c.with_literals.result _ _ (λ l le. above_width _ _ _ _ c.in_ok-bounds.ensures.peak c.in_ok-first.ensures.wide le) c.with_literals.ensures.peak

pub returns-clause-size : goal.returns-clause-size
returns-clause-size c = if_ok c.with_literals.result _ _ (λ l le. size_above _ _ _ _ _ _ c.in_ok-bounds.ensures.size c.in_ok-first.ensures.wide c.in_ok-first.ensures.bulk le) c.with_literals.ensures.size

pub returns-clause-code : goal.returns-clause-code
returns-clause-code c = if_ok c.with_literals.result _ _ (λ l le. length_above _ _ _ _ _ _ c.in_ok-bounds.ensures.length c.in_ok-first.ensures.wide c.in_ok-first.ensures.bulk le) c.with_literals.ensures.code
