use Rattle.std.proofs.Common.{[], ◌∷◌, decimal, arith}
use Rattle.uc_asm.specs.Words.{address_name}
use Rattle.uc_asm.proofs.reading.operands_of.Goals as goal

pub returns-in_err-n-clause-none : goal.returns-in_err-n-clause-none
returns-in_err-n-clause-none c =
    rw c.from_residual-in_err-n.ensures (λ m r n x off h e.
    c.in_err-n.ensures n (address_name x ∷ decimal off ∷ []) (omega (arith, h.1)) (cc (c.in_ok-mem.ensures, c.in_ok-r.ensures.1, e)))

pub returns-in_err-off-clause-none : goal.returns-in_err-off-clause-none
returns-in_err-off-clause-none c =
    rw c.from_residual-in_err-off.ensures (λ m r n x off h e.
    c.in_err-off.ensures off [] (omega (arith, h.3)) (cc (c.in_ok-mem.ensures, c.in_ok-r.ensures.1, c.in_ok-n.ensures.1, c.in_ok-x.ensures.1, e)))
