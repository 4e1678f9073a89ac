use Rattle.std.proofs.Common.{sym, ◌∙◌}
use Rattle.nv_text.proofs.Blanks.{comment_front, space_front, no_blank}
use Rattle.nv_text.proofs.scan.blank.Goals as goal

pub returns-then-has-clause-some : goal.returns-then-has-clause-some
returns-then-has-clause-some c = λ h. space_front _ _ _ c.in-Some.ensures.cases.0 (sym c.has.ensures ∙ c.if-has.true)

pub returns-clause-some : goal.returns-clause-some
returns-clause-some c = λ h. comment_front _ _ _ (c.comment.ensures.some h) (c.comment.ensures.line h)

pub returns-clause-none : goal.returns-clause-none
returns-clause-none c = λ h n b. no_blank _ _ _ n c.in-Some.ensures.cases.0 (sym c.has.ensures ∙ c.if-has.false) (c.comment.ensures.none h) b
