use Rattle.std.proofs.Common.{[], ◌∷◌, decimal, arith}
use Rattle.uc_asm.proofs.reading.immed.Goals as goal

pub returns-in_err-v-clause-none : goal.returns-in_err-v-clause-none
returns-in_err-v-clause-none c =
    rw c.from_residual-in_err-v.ensures (λ d v s r e. c.in_err-v.ensures v (decimal s ∷ []) (omega (arith, r.1)) (cc (c.in_ok-dst.ensures.1, e)))

pub returns-in_err-s-clause-none : goal.returns-in_err-s-clause-none
returns-in_err-s-clause-none c =
    rw c.from_residual-in_err-s.ensures (λ d v s r e. c.in_err-s.ensures s [] (omega (arith, r.2)) (cc (c.in_ok-dst.ensures.1, c.in_ok-v.ensures.1, e)))
