use Rattle.std.proofs.Common.{sym, ◌∙◌, refl, [], ◌∷◌, decimal, arith}
use Rattle.std.proofs.lemmas.Bool.{false≢true}
use Rattle.place_weights.proofs.Lines.{counted_parts, counted_rest, counted_from_parts}
use Rattle.place_weights.proofs.read.counted_of.Goals as goal

pub returns-then-not-next_is-clause-none : goal.returns-then-not-next_is-clause-none
returns-then-not-next_is-clause-none c = λ k.
    c.if-not-next_is.ensures (decimal k.number ∷ []) (c.of-parts.ensures ∙ counted_parts _ _ k.number c.requires (omega (arith, k.within)) k.spelled)

pub returns-in_err-n-clause-none : goal.returns-in_err-n-clause-none
returns-in_err-n-clause-none c =
    rw c.from_residual.ensures (λ k. c.in_err-n.ensures k.number [] k.within (counted_rest _ _ c.args.most _ c.requires (omega arith) (sym c.of-parts.ensures ∙ c.if-not-next_is.ensures) k))

pub returns-then-not-is_done-clause-none : goal.returns-then-not-is_done-clause-none
returns-then-not-is_done-clause-none c = λ k.
    let rest = counted_rest _ _ c.args.most _ c.requires (omega arith) (sym c.of-parts.ensures ∙ c.if-not-next_is.ensures) k in
    false≢true (c.if-not-is_done.ensures.1 (cc (rest, c.in_ok-n.ensures.1)))

pub returns-clause-some : goal.returns-clause-some
returns-clause-some c =
    (c.in_ok-n.ensures.0, counted_from_parts _ _ _ (cc (c.of-parts.ensures, c.if-not-next_is.ensures, c.in_ok-n.ensures.1, c.if-not-is_done.ensures.0 refl)))
