use Rattle.std.proofs.Common.{sym, ◌∙◌}
use Rattle.uc_asm.proofs.WordLemmas.{no-unary}
use Rattle.uc_asm.proofs.part.next_unary.Goals as goal

pub returns-in_err-k : goal.returns-in_err-k
returns-in_err-k c =
    rw c.from_residual-in_err-k.ensures (λ op ps u e. no-unary c.in_ok-name.name.now c.next_part.new.self c.in_default.ensures c.in_err-k.ensures op ps u (sym c.in_ok-name.ensures ∙ e))
