use Rattle.std.proofs.Common.{◌⊎◌, [], IfErr, subst, sym}
use Rattle.novac_commands.specs.Answers.{Refuses}
use Rattle.novac_words.specs.Lines.{IsUncaused}
use Rattle.novac_words.specs.inner.Words.{command_as}
use Rattle.novac_words.specs.declared.command.Command.{Command as Spoken}
use Rattle.novac_words.specs.declared.refusal.Refusal.{Refusal}
use Rattle.novac_commands.proofs.Errors.{shown-refused}
use Rattle.novac_commands.proofs.perform.work_alone.Goals as goal

pub returns-clause-refused : goal.returns-clause-refused
returns-clause-refused c =
    let Why : Spoken → Refusal → Type 0 = λ x e. IsUncaused e ⊎ Refuses (command_as x) [] e in
    shown-refused c.generate.result c.shown.result (Why c.args.command) c.shown.ensures (subst (λ (x : Spoken). IfErr c.generate.result (Why x)) (sym c.in-Gen.is) c.generate.ensures.refused)
