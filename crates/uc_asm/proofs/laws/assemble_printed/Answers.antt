use Rattle.std.proofs.Common.{sym, subst, List, ℕ}
use Rattle.uc_asm.specs.Labels.{IsCodeOf}
use Rattle.uc_asm.proofs.laws.assemble_printed.Goals as goal

pub returns : goal.returns
returns c = c.assemble.ensures.given c.args.code.now (subst (λ (t : List ℕ). IsCodeOf t c.args.code.now) (sym c.deref.ensures.value) (c.in_ok-print.ensures.text c.requires.lawful))
