use Rattle.uc_asm.proofs.Exact.{code-one, no-error, error-one}
use Rattle.uc_asm.proofs.laws.one_answer.Goals as goal

pub returns : goal.returns
returns c = record { code = code-one; no_error = no-error; error = error-one }
