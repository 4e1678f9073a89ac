use Rattle.std.proofs.Common.{ℕ, List, ◌⊎◌, IfOk, IfErr, subst}
use Rattle.novac_words.specs.Lines.{IsUncaused}
use Rattle.novac_commands.specs.Compiling.{CompileRefuses}
use Rattle.novac_commands.specs.inner.CompileOutcome.{IsCompileOutcome}
use Rattle.novac_commands.proofs.compile.outcome_evenly.Goals as goal

pub returns-clause-found : goal.returns-clause-found
returns-clause-found c =
    subst (λ (ws : List ℕ). IfOk c.outcome_of_report.result (IsCompileOutcome c.args.text.now c.args.options.slots ws c.args.options.budget c.args.options.store)) c.no_weights-ones.ensures c.outcome_of_report.ensures.found

pub returns-clause-refused : goal.returns-clause-refused
returns-clause-refused c =
    subst (λ (ws : List ℕ). IfErr c.outcome_of_report.result (λ e. IsUncaused e ⊎ CompileRefuses c.args.text.now c.args.options.slots ws c.args.options.budget c.args.options.store e)) c.no_weights-ones.ensures c.outcome_of_report.ensures.refused
