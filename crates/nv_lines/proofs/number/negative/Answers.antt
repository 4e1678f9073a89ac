use Rattle.std.proofs.Common.{◌≡◌, sym, ◌∙◌, arith}
use Rattle.nv_lines.proofs.NumberLemmas.{no_negative, decimal_one}
use Rattle.nv_lines.proofs.number.negative.Goals as goal

pub returns-in_err-n-clause-none : goal.returns-in_err-n-clause-none
returns-in_err-n-clause-none c = rw c.from_residual.ensures (no_negative _ (λ n some low. c.in_err-n.ensures.none n low))

pub returns-then-n-eq0-clause-none : goal.returns-then-n-eq0-clause-none
returns-then-n-eq0-clause-none c =
    no_negative _ (λ n some low e. let zero : 0 ≡ n = decimal_one 0 n (omega arith) (omega arith) (rw c.if-n-eq0.true at (sym c.in_ok-n.ensures.spelled ∙ e)) in omega arith)
