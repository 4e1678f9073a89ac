use Rattle.std.proofs.Common.{◌⊎◌, List, [], ◌∷◌, ℕ, IfErr, subst, sym}
use Rattle.novac_commands.specs.Answers.{Refuses}
use Rattle.novac_commands.specs.Tracing.{TraceRefuses}
use Rattle.novac_words.specs.Lines.{IsUncaused}
use Rattle.novac_words.specs.inner.Words.{command_as}
use Rattle.novac_words.specs.declared.command.Command.{Command as Spoken}
use Rattle.novac_words.specs.declared.refusal.Refusal.{Refusal}
use Rattle.novac_commands.proofs.Errors.{shown-refused}
use Rattle.novac_commands.proofs.perform.work_on_three.Goals as goal

pub returns-in-Trace-clause-refused : goal.returns-in-Trace-clause-refused
returns-in-Trace-clause-refused c =
    let a : List ℕ = c.args.first.now.items in
    let b : List ℕ = c.args.second.now.items in
    let d : List ℕ = c.args.third.now.items in
    let Why : Spoken → Refusal → Type 0 = λ x e. IsUncaused e ⊎ Refuses (command_as x) (a ∷ b ∷ d ∷ []) e in
    let Is : List ℕ → List ℕ → List ℕ → Refusal → Type 0 = λ x y z e. IsUncaused e ⊎ TraceRefuses x y z c.in-Trace.tracing.steps c.in-Trace.tracing.calls e in
    let refused =
    subst (λ (x : List ℕ). IfErr c.trace_bytes.result (Is x b d)) c.deref-in-Trace.ensures.value
    (subst (λ (y : List ℕ). IfErr c.trace_bytes.result (Is c.deref-in-Trace.result.now y d)) c.deref-in-Trace-2.ensures.value
    (subst (λ (z : List ℕ). IfErr c.trace_bytes.result (Is c.deref-in-Trace.result.now c.deref-in-Trace-2.result.now z)) c.deref-in-Trace-3.ensures.value c.trace_bytes.ensures.refused)) in
    shown-refused c.trace_bytes.result c.shown-in-Trace.result (Why c.args.command) c.shown-in-Trace.ensures
    (subst (λ (x : Spoken). IfErr c.trace_bytes.result (Why x)) (sym c.in-Trace.is) refused)
