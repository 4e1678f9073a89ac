use Rattle.std.proofs.Common.{sym, ◌∙◌, refl, [], arith}
use Rattle.std.proofs.lemmas.Bool.{false≢true}
use Rattle.uc_schedule.proofs.LineLemmas.{count_rest, count_same, count_from_parts}
use Rattle.uc_schedule.proofs.line.count_of.Goals as goal

pub returns-in_err-count-clause-none : goal.returns-in_err-count-clause-none
returns-in_err-count-clause-none c =
    rw c.from_residual.ensures (λ k s. c.in_err-count.ensures k [] s.few (count_rest _ _ k (sym c.of-parts.ensures ∙ c.if-not-next_is.ensures) s))

pub returns-then-count-eq0-clause-none : goal.returns-then-count-eq0-clause-none
returns-then-count-eq0-clause-none c = λ k s.
    let same = count_same _ _ _ k c.in_ok-count.count c.in_ok-count.ensures.0 (sym c.of-parts.ensures ∙ c.if-not-next_is.ensures) c.in_ok-count.ensures.1 s in
    omega (arith, same.0, s.some, c.if-count-eq0.true)

pub returns-then-not-is_done-clause-none : goal.returns-then-not-is_done-clause-none
returns-then-not-is_done-clause-none c = λ k s.
    let same = count_same _ _ _ k c.in_ok-count.count c.in_ok-count.ensures.0 (sym c.of-parts.ensures ∙ c.if-not-next_is.ensures) c.in_ok-count.ensures.1 s in
    false≢true (c.if-not-is_done.ensures.1 same.1)

pub returns-clause-some : goal.returns-clause-some
returns-clause-some c =
    count_from_parts _ _ c.in_ok-count.ensures.0 c.if-count-eq0.false (cc (c.of-parts.ensures, c.if-not-next_is.ensures, c.in_ok-count.ensures.1, c.if-not-is_done.ensures.0 refl))
