use Rattle.std.proofs.Common.{◌∙◌, ◌<◌, sym, subst, IfSome, arith}
use Rattle.nv_meaning_values.proofs.Numbers.{number-none, number-found}
use Rattle.nv_meaning_values.proofs.exceptions.exception_at.Goals as goal

pub overflow_cast-result : goal.overflow_cast-result
overflow_cast-result c =
    let h : c.in-Some.i < 65535 = subst (λ o. IfSome o (λ i. i < 65535)) c.in-Some.is c.requires in
    omega (arith, h)

pub overflow_add-result : goal.overflow_add-result
overflow_add-result c =
    let h : c.in-Some.i < 65535 = subst (λ o. IfSome o (λ i. i < 65535)) c.in-Some.is c.requires in
    omega (arith, h)

pub returns-in-Some : goal.returns-in-Some
returns-in-Some c = λ names x is. sym (number-found 0 c.in-Some.i x names (is ∙ c.in-Some.is))

pub returns-in-None : goal.returns-in-None
returns-in-None c = λ names x is. sym (number-none 0 x names (is ∙ c.in-None.is))
