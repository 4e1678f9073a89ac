use Rattle.std.proofs.Common.{[], ◌∷◌}
use Rattle.uc_asm.specs.Words.{source_name}
use Rattle.uc_asm.proofs.reading.alu.Goals as goal

pub returns-in_err-x-clause-none : goal.returns-in_err-x-clause-none
returns-in_err-x-clause-none c =
    rw c.from_residual-in_err-x.ensures (λ d op x y r e. c.in_err-x.ensures x (source_name y ∷ []) r.1 (cc (c.in_ok-dst.ensures.1, c.in_ok-op.ensures, e)))

pub returns-in_err-y-clause-none : goal.returns-in_err-y-clause-none
returns-in_err-y-clause-none c =
    rw c.from_residual-in_err-y.ensures (λ d op x y r e. c.in_err-y.ensures y [] r.2 (cc (c.in_ok-dst.ensures.1, c.in_ok-op.ensures, c.in_ok-x.ensures.1, e)))
