use Rattle.std.proofs.Common.{arith, sym, ◌∙◌}
use Rattle.std.proofs.lemmas.List.{append_cancel_left}
use Rattle.uc_asm.proofs.part.register.Goals as goal

pub returns-in_err-i-clause-none : goal.returns-in_err-i-clause-none
returns-in_err-i-clause-none c =
    rw c.from_residual-in_err-i.ensures (λ i h e. c.in_err-i.ensures.none i (omega arith) (append_cancel_left c.args.bank.now _ _ (sym c.in_ok-strip.ensures ∙ e)))
