use Rattle.std.proofs.Common.{sym, ◌∙◌, refl, [], ◌∷◌, decimal, codes}
use Rattle.std.proofs.lemmas.Bool.{false≢true}
use Rattle.uc_asm.proofs.LineLemmas.{params_rest, from_parts}
use Rattle.uc_asm.proofs.line.params_of.Goals as goal

pub returns-in_err-params-clause-none : goal.returns-in_err-params-clause-none
returns-in_err-params-clause-none c =
    rw c.from_residual.ensures (λ n h e. c.in_err-params.ensures n [] h (params_rest _ _ n (sym c.of-parts.ensures ∙ c.if-not-next_is.ensures) h e))

pub returns-then-not-is_done-clause-none : goal.returns-then-not-is_done-clause-none
returns-then-not-is_done-clause-none c = λ n h e.
    let rest = params_rest _ _ n (sym c.of-parts.ensures ∙ c.if-not-next_is.ensures) h e in
    false≢true (c.if-not-is_done.ensures.1 (cc (rest, c.in_ok-params.ensures.1)))

pub returns-clause-some : goal.returns-clause-some
returns-clause-some c = (
  c.in_ok-params.ensures.0,
  from_parts _ (codes "params" ∷ decimal c.in_ok-params.params ∷ [])
      (cc (c.of-parts.ensures, c.if-not-next_is.ensures, c.in_ok-params.ensures.1, c.if-not-is_done.ensures.0 refl)),
)
