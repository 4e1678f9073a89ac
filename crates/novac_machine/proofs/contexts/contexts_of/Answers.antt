use Rattle.std.proofs.Common.{List, ℕ, ◌⊎◌, sym, ◌∙◌, subst}
use Rattle.std.proofs.lemmas.Result.{err_from_is_err_and, IfOk-weaker, IfErr-weaker}
use Rattle.nv_memtext.specs.MemoryText.{Gives}
use Rattle.uc_schedule.specs.ScheduleText.{Gives as GivesTurns}
use Rattle.novac_words.specs.Lines.{IsUncaused}
use Rattle.novac_machine.specs.Machine.{IsMemoryRefusedFor}
use Rattle.novac_machine.specs.Scheduled.{IsScheduleRefusedFor}
use Rattle.novac_machine.proofs.Turns.{is-scheduled, memory-refuses, schedule-refuses}
use Rattle.novac_machine.proofs.contexts.contexts_of.Goals as goal

pub returns-in_err-job-clause-refused : goal.returns-in_err-job-clause-refused
returns-in_err-job-clause-refused c = λ bytes o is same.
    let p = err_from_is_err_and c.from_residual.result c.from_residual.ensures.1 in
    rw (p.1, p.2)
    (memory-refuses bytes c.args.text.now c.args.turns.now o c.args.code.now c.in_err-job.field-0.0 is same c.requires.lawful
    (subst (λ (n : ℕ). IsUncaused c.in_err-job.field-0.0 ⊎ IsMemoryRefusedFor n c.args.text.now c.in_err-job.field-0.0) c.params.ensures.params c.in_err-job.ensures.refused))

pub returns-in_err-schedule-clause-refused : goal.returns-in_err-schedule-clause-refused
returns-in_err-schedule-clause-refused c = λ bytes o is same.
    let p = err_from_is_err_and c.from_residual-in_err-schedule.result c.from_residual-in_err-schedule.ensures.1 in
    let e = c.in_err-schedule.field-0.0 in
    rw (p.1, p.2)
    (schedule-refuses bytes c.args.text.now c.args.turns.now o c.args.code.now c.in_ok-job.job.packet c.in_ok-job.job.args e is same c.requires.lawful
    (subst (λ (n : ℕ). Gives n c.args.text.now c.in_ok-job.job.packet c.in_ok-job.job.args) c.params.ensures.params c.in_ok-job.ensures.given)
    (subst (λ (n : ℕ). IsUncaused e ⊎ IsScheduleRefusedFor n c.args.turns.now e) c.params-2.ensures.params c.in_err-schedule.ensures.refused))

pub returns-clause-ended : goal.returns-clause-ended
returns-clause-ended c = λ bytes o is same.
    let schedule = c.in_ok-schedule.schedule in
    let given = subst (λ (n : ℕ). Gives n c.args.text.now c.in_ok-job.job.packet c.in_ok-job.job.args) c.params.ensures.params c.in_ok-job.ensures.given in
    let turns =
    subst (λ (l : List (ℕ × ℕ)). GivesTurns c.args.code.now.params c.args.turns.now schedule.args.items l) (sym c.deref-2.ensures.value)
    (subst (λ (n : ℕ). GivesTurns n c.args.turns.now schedule.args.items schedule.entries.items) c.params-2.ensures.params c.in_ok-schedule.ensures.given) in
    IfOk-weaker c.turns_of.result _ _
    (λ r taken. is-scheduled bytes c.args.text.now c.args.turns.now o c.args.code.now c.in_ok-job.job.packet c.in_ok-job.job.args schedule.args.items c.deref.result.now c.deref-2.result.now r.status r.text.items
    is same c.requires.lawful given turns (c.deref.ensures.value ∙ c.in_ok-insert.ensures.items) taken)
    c.turns_of.ensures.turns

pub returns-clause-refused : goal.returns-clause-refused
returns-clause-refused c = λ bytes o is same.
    IfErr-weaker c.turns_of.result _ _ (λ e h. memory-refuses bytes c.args.text.now c.args.turns.now o c.args.code.now e is same c.requires.lawful h) c.turns_of.ensures.refused
