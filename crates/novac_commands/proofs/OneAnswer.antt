-- The contents of a command's inputs decide the answer.
use Rattle.std.proofs.Common.{◌≡◌, ℕ, ◌⊎◌, inl, inr, List, [], ◌∷◌, Option, Ok, Err, length, take, refl, ap, sym, ◌∙◌, subst, codes}
use Rattle.nv_memtext.specs.MemoryText.{Gives}
use Rattle.nv_memtext.proofs.ExactLemmas.{gives_one, gives_not_large, gives_not_bad, large_one, bad_one}
use Rattle.nv_base.specs.Memories.{Memories}
use Rattle.nv_base.specs.Meanings.{FullOutcome}
use Rattle.nv_base.specs.declared.outcome.Outcome.{Outcome}
use Rattle.nv_base.specs.declared.outcome.Outcome.TheVariants as outcome
use Rattle.uc_isa.specs.Code.{CodeView}
use Rattle.uc_isa.specs.Engine.{engine}
use Rattle.uc_isa.specs.Lawful.{IsLawful}
use Rattle.uc_isa.specs.declared.instruction.Instr.{Instr}
use Rattle.uc_isa.proofs.FirstBroken.{first-one, first-unlawful}
use Rattle.uc_object.specs.Object.{IsObject, code_of}
use Rattle.uc_object.specs.declared.object.Object.{Object}
use Rattle.uc_object.proofs.Results.{bad-one as place-one, object-good}
use Rattle.uc_object.proofs.Spelling.{object-one}
use Rattle.uc_asm.specs.Answer.{IsTrueError, Answers as Assembles}
use Rattle.uc_asm.specs.Labels.{IsCodeOf}
use Rattle.uc_asm.specs.Starts.{object_listing}
use Rattle.uc_asm.specs.declared.error.AsmError.{AsmError}
use Rattle.uc_asm.specs.declared.error.AsmError.TheVariants as asm
use Rattle.uc_asm.proofs.Exact.{given-answer, syntax-answer, label-answer, unlawful-answer}
use Rattle.nova_compile.specs.Sources.{IsTypedSource}
use Rattle.nova_compile.proofs.OneSource.{source-program}
use Rattle.nv_ast.specs.Sizes.{main_words}
use Rattle.nv_ast.specs.Tree.{ProgramTree}
use Rattle.nv_meaning.specs.Meaning.{source as meaning}
use Rattle.ssu_ir.specs.Meaning.{ssu_meaning}
use Rattle.nova_compile.proofs.Formed.{fewer}
use Rattle.novac_commands.specs.Answers.{Makes, Prints, CanMake, CanEnd, Refuses, MustRefuse}
use Rattle.novac_machine.specs.Assembly.{AsmRefuses, IsListed}
use Rattle.novac_words.specs.Command.{Command, Compile, Run, Exec, Asm, Dis, Lint, Check, Gen, Contexts, Peep, Trace, Counts}
use Rattle.novac_commands.specs.Executing.{ExecRefuses, IsExecuted}
use Rattle.nova_compile.specs.Forms.{form_bound}
use Rattle.novac_commands.specs.Compiling.{CompileMakes, IsUnfit, IsEndOf}
use Rattle.novac_commands.specs.Weighing.{AreWeighed, WeightsRefuse, TextsRefuse}
use Rattle.place_weights.proofs.Exact.{bad_answer}
use Rattle.place_weights.specs.declared.read.WeightsError.TheVariants.{Bad}
use Rattle.novac_words.specs.Lines.{counted, refusal_status}
use Rattle.novac_machine.specs.Machine.{IsBadObjectFor, IsUnlawfulFor, IsMemoryRefusedFor, LintRefuses, RunRefuses, IsLinted, IsRun, spill_base, full_text, run_text}
use Rattle.novac_machine.specs.Scheduled.{ContextsRefuse, HaveTakenTurns, IsScheduleRefusedFor, IsScheduled}
use Rattle.uc_schedule.specs.ScheduleText.{Gives as GivesTurns}
use Rattle.uc_schedule.proofs.Reading.{gives_one as turns-one}
use Rattle.uc_contexts.specs.Turns.{entries, scheduled, started}
use Rattle.novac_machine.specs.Saving.{File}
use Rattle.novac_commands.specs.Tracing.{IsTraced, TraceRefuses, ObjectRefuses, CodeRefuses, IsOtherFor, made_writes, code_writes}
use Rattle.nv_meaning_values.specs.Running.{plain}
use Rattle.nv_trace.specs.TraceText.{shown, trace_text}
use Rattle.nv_trace.specs.Unlike.{AgreeAsFar}
use Rattle.nv_trace.proofs.Unlikes.{unlike-one, unlike-agree}
use Rattle.novac_machine.proofs.OneSchedule.{taken-one, taken-outcome, turns-good, turns-refused-one}
use Rattle.novac_words.specs.Status.{outcome_status, MaySave}
use Rattle.novac_machine.specs.inner.Outcomes.{IsOutcome}
use Rattle.novac_words.specs.declared.refusal.Refusal.{Refusal}
use Rattle.novac_words.specs.declared.refusal.Refusal.TheVariants.{NoMemory, ReadFault, TooLarge, Syntax, Label, UnlawfulLine, BadObject, BadMemoryText, Unlawful, SourceLarge, StoreFull, BadWeights, TraceParams, TraceWrite}
use Rattle.novac_words.specs.declared.status.Status.{Status}
use Rattle.novac_words.specs.declared.status.Status.TheVariants.{Done, Infeasible, BudgetSpent}
use Rattle.novac_commands.proofs.OneReport.{check-one, check-good, checked-one}
use Rattle.novac_commands.proofs.OneSource.{source-one, source-good}

-- objects
bad-one : (b : List ℕ) (e e' : Refusal) → IsBadObjectFor b e → IsBadObjectFor b e' → e ≡ e'
bad-one b (BadObject at) (BadObject at') h k = ap (λ (n : ℕ). BadObject n) (place-one b at at' h k)
bad-one b (BadObject at) _ h k = absurd k
bad-one b _ e' h k = absurd h

bad-good : (b : List ℕ) (e : Refusal) (o : Object) → IsObject b o → IsBadObjectFor b e → ⊥
bad-good b (BadObject at) o is h = object-good b o at is h
bad-good b _ c o h = h

unlawful-one : (code : List Instr) (e e' : Refusal) → IsUnlawfulFor code e → IsUnlawfulFor code e' → e ≡ e'
unlawful-one code (Unlawful p r) (Unlawful p' r') h k =
    let same = first-one code p r p' r' h k in
    ap (λ (n : ℕ). Unlawful n r) same.0 ∙ ap (λ (n : ℕ). Unlawful p' n) same.1
unlawful-one code (Unlawful p r) _ h k = absurd k
unlawful-one code _ e' h k = absurd h

unlawful-bad : (code : List Instr) (e : Refusal) → IsLawful code → IsUnlawfulFor code e → ⊥
unlawful-bad code (Unlawful p r) l h = first-unlawful code p r h l
unlawful-bad code _ l h = h

lint-one : (b : List ℕ) (e e' : Refusal) → LintRefuses b e → LintRefuses b e' → e ≡ e'
lint-one b e e' (inl h) (inl k) = bad-one b e e' h k
lint-one b e e' (inl h) (inr k) = absurd (bad-good b e k.0 k.1 h)
lint-one b e e' (inr h) (inl k) = absurd (bad-good b e' h.0 h.1 k)
lint-one b e e' (inr h) (inr k) =
    let same = object-one b h.0 k.0 h.1 k.1 in
    unlawful-one (code_of k.0).list e e' (subst (λ (o : Object). IsUnlawfulFor (code_of o).list e) same h.2) k.2

lint-good : (b : List ℕ) (e : Refusal) (o : Object) → IsObject b o → IsLawful (code_of o).list → LintRefuses b e → ⊥
lint-good b e o is l (inl h) = bad-good b e o is h
lint-good b e o is l (inr h) =
    let same = object-one b h.0 o h.1 is in
    unlawful-bad (code_of o).list e l (subst (λ (p : Object). IsUnlawfulFor (code_of p).list e) same h.2)

linted-one : (b : List ℕ) (s s' : Status) (t t' : List ℕ) → IsLinted b s t → IsLinted b s' t' → (s ≡ s') × (t ≡ t')
linted-one b s s' t t' h k =
    let same = object-one b h.o k.o h.object k.object in
    let line : Object → List ℕ = λ o. counted (codes "lawful ") (length (code_of o).list) in
    (h.done ∙ sym k.done, h.line ∙ ap line same ∙ sym k.line)

listed-one : (b : List ℕ) (s s' : Status) (t t' : List ℕ) → IsListed b s t → IsListed b s' t' → (s ≡ s') × (t ≡ t')
listed-one b s s' t t' h k =
    let same = object-one b h.o k.o h.object k.object in
    (h.done ∙ sym k.done, h.prints ∙ ap object_listing same ∙ sym k.prints)

-- assembly texts: why one is refused, as the assembler says it
refusal-of : AsmError → Refusal
refusal-of asm.NoMemory = NoMemory
refusal-of (asm.Syntax n) = Syntax n
refusal-of (asm.Label n) = Label n
refusal-of (asm.Unlawful n rule) = UnlawfulLine n rule

record IsWhy (text : List ℕ) (e : Refusal) : Type 0 where
  pub error : AsmError
  pub is_true : IsTrueError text error
  pub caused : error ≡ asm.NoMemory → ⊥
  pub is : e ≡ refusal-of error

why : (text : List ℕ) (e : Refusal) → AsmRefuses text e → IsWhy text e
unfolding refusal-of
why text (Syntax n) h = record { error = asm.Syntax n; is_true = h; caused = λ x. cc; is = refl }
why text (Label n) h = record { error = asm.Label n; is_true = h; caused = λ x. cc; is = refl }
why text (UnlawfulLine n rule) h = record { error = asm.Unlawful n rule; is_true = h; caused = λ x. cc; is = refl }
why text _ h = absurd h

error-same : (a b : AsmError) → Assembles (Err a) (Err b) → (a ≡ asm.NoMemory → ⊥) → a ≡ b
error-same a b (inl e) caused = cc
error-same a b (inr e) caused = let none : a ≡ asm.NoMemory = cc in absurd (caused none)

error-one : (text : List ℕ) (a b : AsmError) → (a ≡ asm.NoMemory → ⊥) → (b ≡ asm.NoMemory → ⊥) → IsTrueError text a → IsTrueError text b → a ≡ b
error-one text a asm.NoMemory caused caused' h k = absurd (caused' refl)
error-one text a (asm.Syntax n) caused caused' h k = error-same a (asm.Syntax n) (syntax-answer text (Err a) tt h n k) caused
error-one text a (asm.Label n) caused caused' h k = error-same a (asm.Label n) (label-answer text (Err a) tt h n k) caused
error-one text a (asm.Unlawful n rule) caused caused' h k = error-same a (asm.Unlawful n rule) (unlawful-answer text (Err a) tt h n rule k) caused

assembly-one : (text : List ℕ) (e e' : Refusal) → AsmRefuses text e → AsmRefuses text e' → e ≡ e'
assembly-one text e e' h k =
    let a = why text e h in
    let b = why text e' k in
    a.is ∙ ap refusal-of (error-one text a.error b.error a.caused b.caused a.is_true b.is_true) ∙ sym b.is

code-unless : (c : CodeView) (a : AsmError) → Assembles (Err a) (Ok c) → (a ≡ asm.NoMemory → ⊥) → ⊥
code-unless c a (inl e) caused = cc
code-unless c a (inr e) caused = let none : a ≡ asm.NoMemory = cc in caused none

assembly-good : (text : List ℕ) (e : Refusal) (c : CodeView) → IsCodeOf text c → AsmRefuses text e → ⊥
assembly-good text e c g h = let a = why text e h in code-unless c a.error (given-answer text (Err a.error) tt a.is_true c g) a.caused

-- memory texts
memory-one : (params : ℕ) (t : List ℕ) (e e' : Refusal) → IsMemoryRefusedFor params t e → IsMemoryRefusedFor params t e' → e ≡ e'
memory-one params t (BadMemoryText n) (BadMemoryText m) h k = ap (λ (x : ℕ). BadMemoryText x) (bad_one params t n m h k)
memory-one params t (BadMemoryText n) (TooLarge m) h k = absurd (h.not_large m k)
memory-one params t (BadMemoryText n) _ h k = absurd k
memory-one params t (TooLarge n) (TooLarge m) h k = ap (λ (x : ℕ). TooLarge x) (large_one t n m h k)
memory-one params t (TooLarge n) (BadMemoryText m) h k = absurd (k.not_large n h)
memory-one params t (TooLarge n) _ h k = absurd k
memory-one params t _ e' h k = absurd h

memory-good : (params : ℕ) (t : List ℕ) (e : Refusal) (p : Memories) (args : List ℕ) → Gives params t p args → IsMemoryRefusedFor params t e → ⊥
memory-good params t (BadMemoryText n) p args g h = gives_not_bad params t p args n g h
memory-good params t (TooLarge n) p args g h = gives_not_large params t p args n g h
memory-good params t _ p args g h = h

-- runs
runs-one : (b t : List ℕ) (e e' : Refusal) → RunRefuses b t e → RunRefuses b t e' → e ≡ e'
runs-one b t e e' (inl h) (inl k) = lint-one b e e' h k
runs-one b t e e' (inl h) (inr k) = absurd (lint-good b e k.0 k.1 k.2.0 h)
runs-one b t e e' (inr h) (inl k) = absurd (lint-good b e' h.0 h.1 h.2.0 k)
runs-one b t e e' (inr h) (inr k) =
    let same = object-one b h.0 k.0 h.1 k.1 in
    memory-one (code_of k.0).params t e e' (subst (λ (o : Object). IsMemoryRefusedFor (code_of o).params t e) same h.2.1) k.2.1

runs-good : (b t : List ℕ) (e : Refusal) (o : Object) → IsObject b o → IsLawful (code_of o).list → (p : Memories) (args : List ℕ) → Gives (code_of o).params t p args → RunRefuses b t e → ⊥
runs-good b t e o is l p args g (inl h) = lint-good b e o is l h
runs-good b t e o is l p args g (inr h) =
    let same = object-one b h.0 o h.1 is in
    memory-good (code_of o).params t e p args g (subst (λ (x : Object). IsMemoryRefusedFor (code_of x).params t e) same h.2.1)

run-good : (b t : List ℕ) (e : Refusal) (steps : ℕ) (s : Status) (text : List ℕ) → IsRun b t steps s text → RunRefuses b t e → ⊥
run-good b t e steps s text r h = runs-good b t e r.o r.object r.lawful r.packet r.arguments r.given h

run-one : (b t : List ℕ) (steps : ℕ) (s s' : Status) (text text' : List ℕ) → IsRun b t steps s text → IsRun b t steps s' text' → (s ≡ s') × (text ≡ text')
run-one b t steps s s' text text' h k =
    let same = object-one b h.o k.o h.object k.object in
    let given = subst (λ (o : Object). Gives (code_of o).params t h.packet h.arguments) same h.given in
    let gives = gives_one (code_of k.o).params t h.packet k.packet h.arguments k.arguments given k.given in
    let run_of : Object → List ℕ → Memories → FullOutcome = λ o a p. engine (code_of o) a spill_base p steps in
    let run : run_of h.o h.arguments h.packet ≡ run_of k.o k.arguments k.packet =
    ap (λ (o : Object). run_of o h.arguments h.packet) same ∙ ap (λ (p : Memories). run_of k.o h.arguments p) gives.0 ∙ ap (λ (a : List ℕ). run_of k.o a k.packet) gives.1 in
    let status : FullOutcome → Status = λ f. outcome_status f.outcome in
    let told = ap (run_text h.o) run ∙ ap (λ (o : Object). run_text o (run_of k.o k.arguments k.packet)) same in
    (h.ends ∙ ap status run ∙ sym k.ends, h.prints ∙ told ∙ sym k.prints)

-- contexts
contexts-one : (b g u : List ℕ) (e e' : Refusal) → ContextsRefuse b g u e → ContextsRefuse b g u e' → e ≡ e'
contexts-one b g u e e' (inl h) (inl k) = runs-one b g e e' h k
contexts-one b g u e e' (inl h) (inr k) = absurd (runs-good b g e k.0 k.1 k.2.0 k.2.1.0 k.2.1.1 k.2.1.2 h)
contexts-one b g u e e' (inr h) (inl k) = absurd (runs-good b g e' h.0 h.1 h.2.0 h.2.1.0 h.2.1.1 h.2.1.2 k)
contexts-one b g u e e' (inr h) (inr k) =
    let same = object-one b h.0 k.0 h.1 k.1 in
    turns-refused-one (code_of k.0).params u e e' (subst (λ (o : Object). IsScheduleRefusedFor (code_of o).params u e) same h.2.2) k.2.2

contexts-good : (b g u : List ℕ) (e : Refusal) (s : Status) (text : List ℕ) → IsScheduled b g u s text → ContextsRefuse b g u e → ⊥
contexts-good b g u e s text r (inl h) = runs-good b g e r.o r.object r.lawful r.packet r.arguments r.given h
contexts-good b g u e s text r (inr h) =
    let same = object-one b h.0 r.o h.1 r.object in
    turns-good (code_of r.o).params u e r.others r.pairs r.schedule (subst (λ (o : Object). IsScheduleRefusedFor (code_of o).params u e) same h.2.2)

scheduled-one : (b g u : List ℕ) (s s' : Status) (text text' : List ℕ) → IsScheduled b g u s text → IsScheduled b g u s' text' → (s ≡ s') × (text ≡ text')
scheduled-one b g u s s' text text' h k =
    let same = object-one b h.o k.o h.object k.object in
    let given = subst (λ (o : Object). Gives (code_of o).params g h.packet h.arguments) same h.given in
    let gives = gives_one (code_of k.o).params g h.packet k.packet h.arguments k.arguments given k.given in
    let turns = turns-one (code_of k.o).params u h.others k.others h.pairs k.pairs (subst (λ (o : Object). GivesTurns (code_of o).params u h.others h.pairs) same h.schedule) k.schedule in
    let taken : HaveTakenTurns (code_of k.o) k.packet (k.arguments ∷ k.others) (entries k.pairs) s text =
    subst (λ (x : List (ℕ × ℕ)). HaveTakenTurns (code_of k.o) k.packet (k.arguments ∷ k.others) (entries x) s text) turns.1
    (subst (λ (x : List (List ℕ)). HaveTakenTurns (code_of k.o) k.packet (k.arguments ∷ x) (entries h.pairs) s text) turns.0
    (subst (λ (x : List ℕ). HaveTakenTurns (code_of k.o) k.packet (x ∷ h.others) (entries h.pairs) s text) gives.1
    (subst (λ (x : Memories). HaveTakenTurns (code_of k.o) x (h.arguments ∷ h.others) (entries h.pairs) s text) gives.0
    (subst (λ (o : Object). HaveTakenTurns (code_of o) h.packet (h.arguments ∷ h.others) (entries h.pairs) s text) same h.taken)))) in
    taken-one (code_of k.o) k.packet (k.arguments ∷ k.others) (entries k.pairs) s s' text text' taken k.taken

-- executions
exec-one : (b t : List ℕ) (e e' : Refusal) → ExecRefuses b t e → ExecRefuses b t e' → e ≡ e'
exec-one b t e e' (inl h) (inl k) = source-one b e e' h k
exec-one b t e e' (inl h) (inr k) = absurd (source-good b e k.0 k.1 h)
exec-one b t e e' (inr h) (inl k) = absurd (source-good b e' h.0 h.1 k)
exec-one b t e e' (inr h) (inr k) =
    let same = source-program b h.0 k.0 h.1.is_source k.1.is_source in
    memory-one (main_words k.0) t e e' (subst (λ (p : ProgramTree). IsMemoryRefusedFor (main_words p) t e) same h.2) k.2

-- a program with its arguments and memories
job-good : (b t : List ℕ) (e : Refusal) (program : ProgramTree) (packet : Memories) (arguments : List ℕ) → IsTypedSource b program → Gives (main_words program) t packet arguments → ExecRefuses b t e → ⊥
job-good b t e program packet arguments typed given (inl h) = source-good b e program typed h
job-good b t e program packet arguments typed given (inr h) =
    let same = source-program b h.0 program h.1.is_source typed.is_source in
    memory-good (main_words program) t e packet arguments given (subst (λ (p : ProgramTree). IsMemoryRefusedFor (main_words p) t e) same h.2)

exec-good : (b t : List ℕ) (e : Refusal) (calls : ℕ) (s : Status) (text : List ℕ) → IsExecuted b t calls s text → ExecRefuses b t e → ⊥
exec-good b t e calls s text r h = job-good b t e r.program r.packet r.arguments r.is_source r.given h

executed-one : (b t : List ℕ) (calls : ℕ) (s s' : Status) (text text' : List ℕ) → IsExecuted b t calls s text → IsExecuted b t calls s' text' → (s ≡ s') × (text ≡ text')
executed-one b t calls s s' text text' h k =
    let same = source-program b h.program k.program h.is_source.is_source k.is_source.is_source in
    let given = subst (λ (p : ProgramTree). Gives (main_words p) t h.packet h.arguments) same h.given in
    let gives = gives_one (main_words k.program) t h.packet k.packet h.arguments k.arguments given k.given in
    let run_of : ProgramTree → List ℕ → Memories → FullOutcome = λ q a p. meaning q a p calls in
    let run : run_of h.program h.arguments h.packet ≡ run_of k.program k.arguments k.packet =
    ap (λ (q : ProgramTree). run_of q h.arguments h.packet) same ∙ ap (λ (p : Memories). run_of k.program h.arguments p) gives.0 ∙ ap (λ (a : List ℕ). run_of k.program a k.packet) gives.1 in
    let status : FullOutcome → Status = λ f. outcome_status f.outcome in
    (h.ends ∙ ap status run ∙ sym k.ends, h.prints ∙ ap full_text run ∙ sym k.prints)

-- traces
other-one : (program : ProgramTree) (c : CodeView) (steps calls : ℕ) (args : List ℕ) (p : Memories) (e e' : Refusal) → IsOtherFor program c steps calls args p e → IsOtherFor program c steps calls args p e' → e ≡ e'
other-one program c steps calls args p (TraceParams a b) (TraceParams a' b') h k = ap (λ (x : ℕ). TraceParams x b) (h.0 ∙ sym k.0) ∙ ap (λ (x : ℕ). TraceParams a' x) (h.1 ∙ sym k.1)
other-one program c steps calls args p (TraceParams a b) (TraceWrite i) h k = absurd (h.2 (h.0 ∙ k.0 ∙ sym h.1))
other-one program c steps calls args p (TraceParams a b) _ h k = absurd k
other-one program c steps calls args p (TraceWrite i) (TraceWrite j) h k = ap (λ (x : ℕ). TraceWrite x) (unlike-one i j (plain (made_writes program calls args p)) (code_writes c steps args p) h.1 k.1)
other-one program c steps calls args p (TraceWrite i) (TraceParams a b) h k = absurd (k.2 (k.0 ∙ h.0 ∙ sym k.1))
other-one program c steps calls args p (TraceWrite i) _ h k = absurd k
other-one program c steps calls args p _ e' h k = absurd h

other-good : (program : ProgramTree) (c : CodeView) (steps calls : ℕ) (args : List ℕ) (p : Memories) (e : Refusal) → c.params ≡ main_words program → AgreeAsFar (plain (made_writes program calls args p)) (code_writes c steps args p) → IsOtherFor program c steps calls args p e → ⊥
other-good program c steps calls args p (TraceParams a b) same agree h = h.2 (h.0 ∙ same ∙ sym h.1)
other-good program c steps calls args p (TraceWrite i) same agree h = unlike-agree i (plain (made_writes program calls args p)) (code_writes c steps args p) h.1 agree
other-good program c steps calls args p _ same agree h = h

code-one : (program : ProgramTree) (m : List ℕ) (steps calls : ℕ) (c : CodeView) (e e' : Refusal) → CodeRefuses program m steps calls c e → CodeRefuses program m steps calls c e' → e ≡ e'
code-one program m steps calls c e e' (inl h) (inl k) = memory-one (main_words program) m e e' h k
code-one program m steps calls c e e' (inl h) (inr k) = absurd (memory-good (main_words program) m e k.0 k.1 k.2 h)
code-one program m steps calls c e e' (inr h) (inl k) = absurd (memory-good (main_words program) m e' h.0 h.1 h.2 k)
code-one program m steps calls c e e' (inr h) (inr k) =
    let gives = gives_one (main_words program) m h.0 k.0 h.1 k.1 h.2 k.2 in
    other-one program c steps calls k.1 k.0 e e'
    (subst (λ (a : List ℕ). IsOtherFor program c steps calls a k.0 e) gives.1 (subst (λ (p : Memories). IsOtherFor program c steps calls h.1 p e) gives.0 h.3)) k.3

object-one_trace : (program : ProgramTree) (b m : List ℕ) (steps calls : ℕ) (e e' : Refusal) → ObjectRefuses program b m steps calls e → ObjectRefuses program b m steps calls e' → e ≡ e'
object-one_trace program b m steps calls e e' (inl h) (inl k) = lint-one b e e' h k
object-one_trace program b m steps calls e e' (inl h) (inr k) = absurd (lint-good b e k.0 k.1 k.2.0 h)
object-one_trace program b m steps calls e e' (inr h) (inl k) = absurd (lint-good b e' h.0 h.1 h.2.0 k)
object-one_trace program b m steps calls e e' (inr h) (inr k) =
    let same = object-one b h.0 k.0 h.1 k.1 in
    code-one program m steps calls (code_of k.0) e e' (subst (λ (o : Object). CodeRefuses program m steps calls (code_of o) e) same h.2.1) k.2.1

trace-one : (t b m : List ℕ) (steps calls : ℕ) (e e' : Refusal) → TraceRefuses t b m steps calls e → TraceRefuses t b m steps calls e' → e ≡ e'
trace-one t b m steps calls e e' (inl h) (inl k) = source-one t e e' h k
trace-one t b m steps calls e e' (inl h) (inr k) = absurd (source-good t e k.0 k.1 h)
trace-one t b m steps calls e e' (inr h) (inl k) = absurd (source-good t e' h.0 h.1 k)
trace-one t b m steps calls e e' (inr h) (inr k) =
    let same = source-program t h.0 k.0 h.1.is_source k.1.is_source in
    object-one_trace k.0 b m steps calls e e' (subst (λ (p : ProgramTree). ObjectRefuses p b m steps calls e) same h.2) k.2

code-good : (t b m : List ℕ) (steps calls : ℕ) (line : Option ℕ) (e : Refusal) (s : Status) (text : List ℕ) (r : IsTraced t b m steps calls line s text) → CodeRefuses r.program m steps calls (code_of r.o) e → ⊥
code-good t b m steps calls line e s text r (inl h) = memory-good (main_words r.program) m e r.compared.packet r.compared.arguments r.compared.given h
code-good t b m steps calls line e s text r (inr h) =
    let gives = gives_one (main_words r.program) m h.0 r.compared.packet h.1 r.compared.arguments h.2 r.compared.given in
    other-good r.program (code_of r.o) steps calls r.compared.arguments r.compared.packet e r.compared.params r.compared.agree
    (subst (λ (a : List ℕ). IsOtherFor r.program (code_of r.o) steps calls a r.compared.packet e) gives.1 (subst (λ (p : Memories). IsOtherFor r.program (code_of r.o) steps calls h.1 p e) gives.0 h.3))

object-good_trace : (t b m : List ℕ) (steps calls : ℕ) (line : Option ℕ) (e : Refusal) (s : Status) (text : List ℕ) (r : IsTraced t b m steps calls line s text) → ObjectRefuses r.program b m steps calls e → ⊥
object-good_trace t b m steps calls line e s text r (inl h) = lint-good b e r.o r.object r.lawful h
object-good_trace t b m steps calls line e s text r (inr h) =
    let same = object-one b h.0 r.o h.1 r.object in
    code-good t b m steps calls line e s text r (subst (λ (o : Object). CodeRefuses r.program m steps calls (code_of o) e) same h.2.1)

trace-good : (t b m : List ℕ) (steps calls : ℕ) (line : Option ℕ) (e : Refusal) (s : Status) (text : List ℕ) → IsTraced t b m steps calls line s text → TraceRefuses t b m steps calls e → ⊥
trace-good t b m steps calls line e s text r (inl h) = source-good t e r.program r.is_source h
trace-good t b m steps calls line e s text r (inr h) =
    let same = source-program t h.0 r.program h.1.is_source r.is_source.is_source in
    object-good_trace t b m steps calls line e s text r (subst (λ (p : ProgramTree). ObjectRefuses p b m steps calls e) same h.2)

traced-one : (t b m : List ℕ) (steps calls : ℕ) (line : Option ℕ) (s s' : Status) (text text' : List ℕ) → IsTraced t b m steps calls line s text → IsTraced t b m steps calls line s' text' → (s ≡ s') × (text ≡ text')
traced-one t b m steps calls line s s' text text' h k =
    let program = source-program t h.program k.program h.is_source.is_source k.is_source.is_source in
    let o = object-one b h.o k.o h.object k.object in
    let gives = gives_one (main_words k.program) m h.compared.packet k.compared.packet h.compared.arguments k.compared.arguments (subst (λ (x : ProgramTree). Gives (main_words x) m h.compared.packet h.compared.arguments) program h.compared.given) k.compared.given in
    let out : ProgramTree → Object → List ℕ → Memories → List ℕ = λ x y a p. trace_text t (shown t line (take (length (code_writes (code_of y) steps a p)) (made_writes x calls a p))) in (
      h.compared.done ∙ sym k.compared.done,
      h.compared.prints
          ∙ ap (λ (x : ProgramTree). out x h.o h.compared.arguments h.compared.packet) program
          ∙ ap (λ (y : Object). out k.program y h.compared.arguments h.compared.packet) o
          ∙ ap (λ (p : Memories). out k.program k.o h.compared.arguments p) gives.0
          ∙ ap (λ (a : List ℕ). out k.program k.o a k.compared.packet) gives.1
          ∙ sym k.compared.prints,
    )

-- compilations
record IsEndWith (text : List ℕ) (slots store : ℕ) (s : Status) : Type 0 where
  pub program : ProgramTree
  pub is_source : IsTypedSource text program
  pub ends : IsEndOf program slots store s

compiled-end : (text object report : List ℕ) (slots : ℕ) (ws : List ℕ) (budget store : ℕ) (s : Status) (fs : List File) (t : List ℕ) → CompileMakes text object report slots ws budget store s fs t → IsEndWith text slots store s
compiled-end text object report slots ws budget store Done fs t h = record { program = h.compiled.program; is_source = h.compiled.is_source; ends = tt }
compiled-end text object report slots ws budget store Infeasible fs t h = record { program = h.0.program; is_source = h.0.is_source; ends = h.0.without.few_slots }
compiled-end text object report slots ws budget store BudgetSpent fs t h = record { program = h.0.program; is_source = h.0.is_source; ends = h.0.without.few_slots }
compiled-end text object report slots ws budget store _ fs t h = absurd h

compiled-outcome : (text object report : List ℕ) (slots : ℕ) (ws : List ℕ) (budget store : ℕ) (s : Status) (fs : List File) (t : List ℕ) → CompileMakes text object report slots ws budget store s fs t → IsOutcome s
compiled-outcome text object report slots ws budget store Done fs t h = tt
compiled-outcome text object report slots ws budget store Infeasible fs t h = tt
compiled-outcome text object report slots ws budget store BudgetSpent fs t h = tt
compiled-outcome text object report slots ws budget store _ fs t h = absurd h

compiled-may_save : (text object report : List ℕ) (slots : ℕ) (ws : List ℕ) (budget store : ℕ) (s : Status) (fs : List File) (t : List ℕ) → CompileMakes text object report slots ws budget store s fs t → MaySave s
compiled-may_save text object report slots ws budget store Done fs t h = tt
compiled-may_save text object report slots ws budget store Infeasible fs t h = tt
compiled-may_save text object report slots ws budget store BudgetSpent fs t h = tt
compiled-may_save text object report slots ws budget store _ fs t h = absurd h

-- an input that couldn't be read
abbrev pub IsFault : Refusal → Type 0
IsFault (ReadFault name) = Unit {0}
IsFault _ = ⊥

-- sources, and then texts of weights
weights-one : (g : List (List ℕ)) (e e' : Refusal) → WeightsRefuse g e → WeightsRefuse g e' → e ≡ e'
weights-one (t ∷ []) (BadWeights n) (BadWeights m) h k = ap (λ (x : ℕ). BadWeights x) (bad_answer t (Err (Bad n)) tt h m k)
weights-one (t ∷ []) (BadWeights n) _ h k = absurd k
weights-one _ _ e' h k = absurd h

weights-good : (g : List (List ℕ)) (ws : List ℕ) (e : Refusal) → AreWeighed g ws → WeightsRefuse g e → ⊥
weights-good (t ∷ []) ws (BadWeights n) h k = bad_answer t (Ok ws) h tt n k
weights-good _ ws _ h k = k

weights-unread : (g : List (List ℕ)) (e : Refusal) → IsFault e → WeightsRefuse g e → ⊥
weights-unread (t ∷ []) (ReadFault name) f h = h
weights-unread (t ∷ []) _ f h = absurd f
weights-unread _ e f h = h

texts-one : (b : List ℕ) (g : List (List ℕ)) (e e' : Refusal) → TextsRefuse b g e → TextsRefuse b g e' → e ≡ e'
texts-one b g e e' (inl h) (inl k) = source-one b e e' h k
texts-one b g e e' (inl h) (inr k) = absurd (source-good b e k.0 k.1 h)
texts-one b g e e' (inr h) (inl k) = absurd (source-good b e' h.0 h.1 k)
texts-one b g e e' (inr h) (inr k) = weights-one g e e' h.2 k.2

texts-good : (b : List ℕ) (g : List (List ℕ)) (ws : List ℕ) (e : Refusal) (program : ProgramTree) → IsTypedSource b program → AreWeighed g ws → TextsRefuse b g e → ⊥
texts-good b g ws e program typed weighed (inl h) = source-good b e program typed h
texts-good b g ws e program typed weighed (inr h) = weights-good g ws e weighed h.2

-- where contents decide a refusal, no other is true of them
pub refusal-one : (c : Command) (bs : List (List ℕ)) (e e' : Refusal) → Refuses c bs e → MustRefuse c bs e' → e ≡ e'
refusal-one (Compile source object report slots budget store weights) (b ∷ g) e e' (inl h) k = texts-one b g e e' h k
refusal-one (Compile source object report slots budget store weights) (b ∷ g) e e' (inr h) k = absurd (texts-good b g h.0 e' h.2.0 h.2.1 h.1 k)
refusal-one (Run object memory steps) (b ∷ g ∷ []) e e' h k = runs-one b g e e' h k
refusal-one (Exec source memory calls) (b ∷ g ∷ []) e e' h k = exec-one b g e e' h k
refusal-one (Asm input object) (b ∷ []) e e' h k = assembly-one b e e' h k
refusal-one (Dis object) (b ∷ []) e e' h k = bad-one b e e' h k
refusal-one (Lint object) (b ∷ []) e e' h k = lint-one b e e' h k
refusal-one (Check report) (b ∷ []) e e' h k = check-one b e e' h k
refusal-one (Contexts object memory schedule) (b ∷ g ∷ u ∷ []) e e' h k = contexts-one b g u e e' h k
refusal-one (Trace source object memory steps calls line) (b ∷ g ∷ u ∷ []) e e' h k = trace-one b g u steps calls e e' h k
refusal-one (Peep object output) (b ∷ []) e e' h k = lint-one b e e' h k
refusal-one (Counts source memory output jumps) (b ∷ g ∷ []) e e' h k = exec-one b g e e' h k
refusal-one _ _ e e' h k = absurd k

-- and none is, where the command makes something
pub makes-good : (c : Command) (bs : List (List ℕ)) (s : Status) (fs : List File) (t : List ℕ) (e : Refusal) → Makes c bs s fs t → MustRefuse c bs e → ⊥
makes-good (Compile source object report slots budget store weights) (b ∷ g) s fs t e h k =
    let m = compiled-end b object report slots h.0 budget store s fs t h.2 in
    texts-good b g h.0 e m.program m.is_source h.1 k
makes-good (Run object memory steps) (b ∷ g ∷ []) s fs t e h k = run-good b g e steps s t h.1 k
makes-good (Exec source memory calls) (b ∷ g ∷ []) s fs t e h k = exec-good b g e calls s t h.1 k
makes-good (Asm input object) (b ∷ []) s fs t e h k = assembly-good b e h.assembled.c h.assembled.code k
makes-good (Dis object) (b ∷ []) s fs t e h k = bad-good b e h.1.o h.1.object k
makes-good (Lint object) (b ∷ []) s fs t e h k = lint-good b e h.1.o h.1.object h.1.lawful k
makes-good (Check report) (b ∷ []) s fs t e h k = check-good b s t e h.1 k
makes-good (Contexts object memory schedule) (b ∷ g ∷ u ∷ []) s fs t e h k = contexts-good b g u e s t h.1 k
makes-good (Trace source object memory steps calls line) (b ∷ g ∷ u ∷ []) s fs t e h k = trace-good b g u steps calls line e s t h.1 k
makes-good (Peep object output) (b ∷ []) s fs t e h k = lint-good b e h.o h.object h.lawful k
makes-good (Counts source memory output jumps) (b ∷ g ∷ []) s fs t e h k = job-good b g e h.program h.packet h.arguments h.is_source h.given k
makes-good _ _ s fs t e h k = k

-- what contents show isn't refused
pub prints-good : (c : Command) (bs : List (List ℕ)) (s : Status) (t : List ℕ) (e : Refusal) → Prints c bs s t → Refuses c bs e → ⊥
prints-good (Run object memory steps) (b ∷ g ∷ []) s t e h k = run-good b g e steps s t h k
prints-good (Exec source memory calls) (b ∷ g ∷ []) s t e h k = exec-good b g e calls s t h k
prints-good (Dis object) (b ∷ []) s t e h k = bad-good b e h.o h.object k
prints-good (Lint object) (b ∷ []) s t e h k = lint-good b e h.o h.object h.lawful k
prints-good (Check report) (b ∷ []) s t e h k = check-good b s t e h k
prints-good (Contexts object memory schedule) (b ∷ g ∷ u ∷ []) s t e h k = contexts-good b g u e s t h k
prints-good (Trace source object memory steps calls line) (b ∷ g ∷ u ∷ []) s t e h k = trace-good b g u steps calls line e s t h k
prints-good _ _ s t e h k = h

-- and is one
pub prints-one : (c : Command) (bs : List (List ℕ)) (s s' : Status) (fs : List File) (t t' : List ℕ) → Makes c bs s fs t → Prints c bs s' t' → (s ≡ s') × (t ≡ t')
prints-one (Run object memory steps) (b ∷ g ∷ []) s s' fs t t' h k = run-one b g steps s s' t t' h.1 k
prints-one (Exec source memory calls) (b ∷ g ∷ []) s s' fs t t' h k = executed-one b g calls s s' t t' h.1 k
prints-one (Dis object) (b ∷ []) s s' fs t t' h k = listed-one b s s' t t' h.1 k
prints-one (Lint object) (b ∷ []) s s' fs t t' h k = linted-one b s s' t t' h.1 k
prints-one (Check report) (b ∷ []) s s' fs t t' h k = checked-one b s s' t t' h.1 k
prints-one (Contexts object memory schedule) (b ∷ g ∷ u ∷ []) s s' fs t t' h k = scheduled-one b g u s s' t t' h.1 k
prints-one (Trace source object memory steps calls line) (b ∷ g ∷ u ∷ []) s s' fs t t' h k = traced-one b g u steps calls line s s' t t' h.1 k
prints-one _ _ s s' fs t t' h k = absurd k

-- how a command ends that can make something
unfit-end : (p : ProgramTree) (slots : ℕ) (ws : List ℕ) (budget store : ℕ) (e : Refusal) → IsUnfit p slots ws budget store e → IsEndOf p slots store (refusal_status e)
unfit-end p slots ws budget store (SourceLarge n) h = (n, h)
unfit-end p slots ws budget store (StoreFull n) h = fewer store n (form_bound p) h.long h.bounded
unfit-end p slots ws budget store _ h = absurd h

pub made-end : (c : Command) (bs : List (List ℕ)) (s : Status) (fs : List File) (t : List ℕ) → Makes c bs s fs t → CanMake c bs → CanEnd c bs s
made-end (Compile source object report slots budget store weights) (b ∷ g) s fs t h k =
    let m = compiled-end b object report slots h.0 budget store s fs t h.2 in
    (m.program, m.is_source, m.ends)
made-end (Asm input object) (b ∷ []) s fs t h k = h.done
made-end (Peep object output) (b ∷ []) s fs t h k = h.done
made-end (Counts source memory output jumps) (b ∷ g ∷ []) s fs t h k = ((ssu_meaning h.form h.arguments h.packet jumps).outcome, h.ends)
made-end _ _ s fs t h k = absurd k

pub refused-end : (c : Command) (bs : List (List ℕ)) (e : Refusal) → Refuses c bs e → CanMake c bs → CanEnd c bs (refusal_status e)
refused-end (Compile source object report slots budget store weights) (b ∷ g) e (inl h) k = absurd (texts-good b g k.2.0 e k.0 k.1 k.2.1 h)
refused-end (Compile source object report slots budget store weights) (b ∷ g) e (inr h) k = (h.2.0, h.2.1, unfit-end h.2.0 slots h.0 budget store e h.2.2)
refused-end (Asm input object) (b ∷ []) e h k = absurd (assembly-good b e k.c k.code h)
refused-end (Peep object output) (b ∷ []) e h k = absurd (lint-good b e k.0 k.1 k.2 h)
refused-end (Counts source memory output jumps) (b ∷ g ∷ []) e h k = absurd (job-good b g e k.0 k.2.0 k.2.1.0 k.1 k.2.1.1 h)
refused-end _ _ e h k = absurd k

-- the statuses of what is made
outcome-is : (o : Outcome) → IsOutcome (outcome_status o)
outcome-is (outcome.Ended ws) = tt
outcome-is (outcome.Raised k ws) = tt
outcome-is (outcome.Fault m a) = tt
outcome-is outcome.Going = tt

pub makes-outcome : (c : Command) (bs : List (List ℕ)) (s : Status) (fs : List File) (t : List ℕ) → Makes c bs s fs t → IsOutcome s
makes-outcome (Compile source object report slots budget store weights) (b ∷ g) s fs t h = compiled-outcome b object report slots h.0 budget store s fs t h.2
makes-outcome (Run object memory steps) (b ∷ g ∷ []) s fs t h = subst IsOutcome (sym h.1.ends) (outcome-is (engine (code_of h.1.o) h.1.arguments spill_base h.1.packet steps).outcome)
makes-outcome (Exec source memory calls) (b ∷ g ∷ []) s fs t h = subst IsOutcome (sym h.1.ends) (outcome-is (meaning h.1.program h.1.arguments h.1.packet calls).outcome)
makes-outcome (Asm input object) (b ∷ []) s fs t h = subst IsOutcome (sym h.done) tt
makes-outcome (Dis object) (b ∷ []) s fs t h = subst IsOutcome (sym h.1.done) tt
makes-outcome (Lint object) (b ∷ []) s fs t h = subst IsOutcome (sym h.1.done) tt
makes-outcome (Check report) (b ∷ []) s fs t h = subst IsOutcome (sym h.1.done) tt
makes-outcome (Gen seed size) [] s fs t h = subst IsOutcome (sym h.1) tt
makes-outcome (Contexts object memory schedule) (b ∷ g ∷ u ∷ []) s fs t h = subst IsOutcome (sym h.1.taken.ends) (taken-outcome (scheduled (code_of h.1.o).list (entries h.1.pairs) (record { contexts = started (h.1.arguments ∷ h.1.others); packet = h.1.packet })).contexts)
makes-outcome (Trace source object memory steps calls line) (b ∷ g ∷ u ∷ []) s fs t h = subst IsOutcome (sym h.1.compared.done) tt
makes-outcome (Peep object output) (b ∷ []) s fs t h = subst IsOutcome (sym h.done) tt
makes-outcome (Counts source memory output jumps) (b ∷ g ∷ []) s fs t h = subst IsOutcome (sym h.ends) (outcome-is (ssu_meaning h.form h.arguments h.packet jumps).outcome)
makes-outcome _ _ s fs t h = absurd h

outcome-saves : (o : Outcome) → MaySave (outcome_status o)
outcome-saves (outcome.Ended ws) = tt
outcome-saves (outcome.Raised k ws) = tt
outcome-saves (outcome.Fault m a) = tt
outcome-saves outcome.Going = tt

-- files are saved only with these statuses
pub makes-kept : (c : Command) (bs : List (List ℕ)) (s : Status) (fs : List File) (t : List ℕ) → Makes c bs s fs t → MaySave s ⊎ (fs ≡ [])
makes-kept (Compile source object report slots budget store weights) (b ∷ g) s fs t h = inl (compiled-may_save b object report slots h.0 budget store s fs t h.2)
makes-kept (Run object memory steps) (b ∷ g ∷ []) s fs t h = inr h.0
makes-kept (Exec source memory calls) (b ∷ g ∷ []) s fs t h = inr h.0
makes-kept (Asm input object) (b ∷ []) s fs t h = inl (subst MaySave (sym h.done) tt)
makes-kept (Dis object) (b ∷ []) s fs t h = inr h.0
makes-kept (Lint object) (b ∷ []) s fs t h = inr h.0
makes-kept (Check report) (b ∷ []) s fs t h = inr h.0
makes-kept (Gen seed size) [] s fs t h = inr h.0
makes-kept (Contexts object memory schedule) (b ∷ g ∷ u ∷ []) s fs t h = inr h.0
makes-kept (Trace source object memory steps calls line) (b ∷ g ∷ u ∷ []) s fs t h = inr h.0
makes-kept (Peep object output) (b ∷ []) s fs t h = inl (subst MaySave (sym h.done) tt)
makes-kept (Counts source memory output jumps) (b ∷ g ∷ []) s fs t h = inl (subst MaySave (sym h.ends) (outcome-saves (ssu_meaning h.form h.arguments h.packet jumps).outcome))
makes-kept _ _ s fs t h = absurd h

-- contents are never why an input couldn't be read
lint-unread : (b : List ℕ) (e : Refusal) → IsFault e → LintRefuses b e → ⊥
lint-unread b (ReadFault name) f (inl h) = h
lint-unread b (ReadFault name) f (inr h) = h.2
lint-unread b _ f h = absurd f

other-unread : (program : ProgramTree) (c : CodeView) (steps calls : ℕ) (args : List ℕ) (p : Memories) (e : Refusal) → IsFault e → IsOtherFor program c steps calls args p e → ⊥
other-unread program c steps calls args p (ReadFault name) f h = h
other-unread program c steps calls args p _ f h = absurd f

code-unread : (program : ProgramTree) (m : List ℕ) (steps calls : ℕ) (c : CodeView) (e : Refusal) → IsFault e → CodeRefuses program m steps calls c e → ⊥
code-unread program m steps calls c (ReadFault name) f (inl h) = h
code-unread program m steps calls c (ReadFault name) f (inr h) = other-unread program c steps calls h.1 h.0 (ReadFault name) tt h.3
code-unread program m steps calls c _ f h = absurd f

object-unread : (program : ProgramTree) (b m : List ℕ) (steps calls : ℕ) (e : Refusal) → IsFault e → ObjectRefuses program b m steps calls e → ⊥
object-unread program b m steps calls e f (inl h) = lint-unread b e f h
object-unread program b m steps calls e f (inr h) = code-unread program m steps calls (code_of h.0) e f h.2.1

trace-unread : (t b m : List ℕ) (steps calls : ℕ) (e : Refusal) → IsFault e → TraceRefuses t b m steps calls e → ⊥
trace-unread t b m steps calls (ReadFault name) f (inl h) = h
trace-unread t b m steps calls (ReadFault name) f (inr h) = object-unread h.0 b m steps calls (ReadFault name) tt h.2
trace-unread t b m steps calls _ f h = absurd f

pub refuses-unread : (e : Refusal) (c : Command) (bs : List (List ℕ)) → IsFault e → Refuses c bs e → ⊥
refuses-unread (ReadFault name) (Compile source object report slots budget store weights) (b ∷ g) f (inl (inl h)) = h
refuses-unread (ReadFault name) (Compile source object report slots budget store weights) (b ∷ g) f (inl (inr h)) = weights-unread g (ReadFault name) tt h.2
refuses-unread (ReadFault name) (Compile source object report slots budget store weights) (b ∷ g) f (inr h) = h.2.2
refuses-unread (ReadFault name) (Run object memory steps) (b ∷ g ∷ []) f (inl h) = lint-unread b (ReadFault name) tt h
refuses-unread (ReadFault name) (Run object memory steps) (b ∷ g ∷ []) f (inr h) = h.2.1
refuses-unread (ReadFault name) (Exec source memory calls) (b ∷ g ∷ []) f (inl h) = h
refuses-unread (ReadFault name) (Exec source memory calls) (b ∷ g ∷ []) f (inr h) = h.2
refuses-unread (ReadFault name) (Asm input object) (b ∷ []) f h = h
refuses-unread (ReadFault name) (Dis object) (b ∷ []) f h = h
refuses-unread (ReadFault name) (Lint object) (b ∷ []) f h = lint-unread b (ReadFault name) tt h
refuses-unread (ReadFault name) (Check report) (b ∷ []) f h = h
refuses-unread (ReadFault name) (Gen seed size) [] f h = h.2
refuses-unread (ReadFault name) (Contexts object memory schedule) (b ∷ g ∷ u ∷ []) f (inl (inl h)) = lint-unread b (ReadFault name) tt h
refuses-unread (ReadFault name) (Contexts object memory schedule) (b ∷ g ∷ u ∷ []) f (inl (inr h)) = h.2.1
refuses-unread (ReadFault name) (Contexts object memory schedule) (b ∷ g ∷ u ∷ []) f (inr h) = h.2.2
refuses-unread (ReadFault name) (Trace source object memory steps calls line) (b ∷ g ∷ u ∷ []) f h = trace-unread b g u steps calls (ReadFault name) tt h
refuses-unread (ReadFault name) (Peep object output) (b ∷ []) f h = lint-unread b (ReadFault name) tt h
refuses-unread (ReadFault name) (Counts source memory output jumps) (b ∷ g ∷ []) f (inl h) = h
refuses-unread (ReadFault name) (Counts source memory output jumps) (b ∷ g ∷ []) f (inr h) = h.2
refuses-unread (ReadFault name) _ _ f h = h
refuses-unread _ c bs f h = absurd f
