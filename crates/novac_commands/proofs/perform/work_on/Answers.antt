use Rattle.std.proofs.Common.{◌⊎◌, List, [], ◌∷◌, ℕ, IfErr, subst, sym}
use Rattle.novac_commands.specs.Answers.{Refuses}
use Rattle.novac_commands.specs.Checking.{CheckRefuses}
use Rattle.novac_words.specs.Lines.{IsUncaused}
use Rattle.novac_words.specs.inner.Words.{command_as}
use Rattle.novac_words.specs.declared.command.Command.{Command as Spoken}
use Rattle.novac_words.specs.declared.refusal.Refusal.{Refusal}
use Rattle.novac_commands.proofs.Errors.{shown-refused}
use Rattle.novac_commands.proofs.perform.work_on.Goals as goal

pub returns-in-Check-clause-refused : goal.returns-in-Check-clause-refused
returns-in-Check-clause-refused c =
    let Why : Spoken → Refusal → Type 0 = λ x e. IsUncaused e ⊎ Refuses (command_as x) (c.args.input.now.items ∷ []) e in
    let report = subst (λ (bytes : List ℕ). IfErr c.check_bytes.result (λ e. IsUncaused e ⊎ CheckRefuses bytes e)) c.deref-in-Check.ensures.value c.check_bytes.ensures.refused in
    shown-refused c.check_bytes.result c.shown-in-Check.result (Why c.args.command) c.shown-in-Check.ensures
    (subst (λ (x : Spoken). IfErr c.check_bytes.result (Why x)) (sym c.in-Check.is) report)
