use Rattle.std.proofs.Common.{[], ◌∷◌}
use Rattle.uc_asm.specs.Words.{source_name}
use Rattle.uc_asm.proofs.WordLemmas.{unary-tail}
use Rattle.uc_asm.proofs.reading.un.Goals as goal

pub returns-in_err-x-clause-none : goal.returns-in_err-x-clause-none
returns-in_err-x-clause-none c =
    rw c.from_residual-in_err-x.ensures (λ d op x r e.
    c.in_err-x.ensures x [] r.2 (unary-tail c.in_ok-op.op op _ (source_name x ∷ []) (cc (c.in_ok-dst.ensures.1, c.in_ok-op.ensures.1, e))))
