use Rattle.std.proofs.Common.{subst}
use Rattle.novac_commands.specs.declared.compile.CompileOutcome.{CompileOutcome}
use Rattle.novac_commands.specs.inner.CompileOutcome.{IsCompileOutcome}
use Rattle.novac_commands.proofs.compile.outcome_made.Goals as goal

pub returns-in-Code-clause-made : goal.returns-in-Code-clause-made
returns-in-Code-clause-made c = λ slots ws store h.
    c.code_made.ensures.made slots ws c.args.budget store (subst (λ (x : CompileOutcome). IsCompileOutcome c.args.text.now slots ws c.args.budget store x) c.in-Code.is h)

pub returns-in-Infeasible-clause-made : goal.returns-in-Infeasible-clause-made
returns-in-Infeasible-clause-made c = λ slots ws store h.
    c.infeasible_made-made.ensures.made c.args.text.now c.args.object.now slots ws c.args.budget store (subst (λ (x : CompileOutcome). IsCompileOutcome c.args.text.now slots ws c.args.budget store x) c.in-Infeasible.is h)

pub returns-in-Spent-clause-made : goal.returns-in-Spent-clause-made
returns-in-Spent-clause-made c = λ slots ws store h.
    c.spent_made-made.ensures.made c.args.text.now c.args.object.now slots ws store (subst (λ (x : CompileOutcome). IsCompileOutcome c.args.text.now slots ws c.args.budget store x) c.in-Spent.is h)
