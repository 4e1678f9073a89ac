-- From what a command answers to what was printed.
use Rattle.std.proofs.Common.{◌≡◌, ◌≢◌, ℕ, ◌⊎◌, inl, inr, List, [], ◌∷◌, ◌++◌, Option, Some, None, refl, ap, sym, ◌∙◌, subst}
use Rattle.std.specs.Prelude.{⊤}
use Rattle.std.proofs.lemmas.List.{append-nil}
use Rattle.nv_outside.specs.Holding.{Holding, AppendsFront}
use Rattle.novac_commands.specs.Answers.{Makes, CanMake, CanEnd, Refuses, Shows, IsRefusable, IsCaused, IsDone, IsStopped, IsRefused, Ends, IsPrinted, IsBegun, IsFree, IsOnly}
use Rattle.novac_words.specs.Command.{Command, Compile, Run, Exec, Asm, Dis, Lint, Check, Gen, Contexts, Peep, Trace, Counts, IfCommand, IfCompile, IfGen, ForCommand, SomeFile, outputs_of}
use Rattle.novac_commands.specs.Generating.{IsGenerated, GenRefuses, EndsGenerated}
use Rattle.zo_cert.specs.declared.report.Verdict.{Verdict}
use Rattle.novac_commands.specs.Compiling.{IsCompiled, IfWithout, IsReported}
use Rattle.novac_words.specs.Lines.{IsUncaused, refusal_status, refusal_text, cannot_read, cannot_write}
use Rattle.novac_commands.specs.Loading.{AreRead, StopsAt, IsUnread, inputs_of}
use Rattle.novac_machine.specs.Saving.{File, IsSameBut}
use Rattle.novac_words.specs.Status.{MaySave}
use Rattle.novac_commands.specs.inner.Replies.{HasEnded}
use Rattle.novac_machine.specs.inner.Outcomes.{IsOutcome}
use Rattle.novac_words.specs.declared.refusal.Refusal.{Refusal}
use Rattle.novac_words.specs.declared.refusal.Refusal.TheVariants.{NoMemory, ReadFault, TooLarge, SourceChar, SourceNumber, SourceName, SourceSyntax, SourceDeep, SourceType, SourceLarge, Syntax, Label, BadObject, BadMemoryText, BadReport, FalseReport, Unlawful, UnlawfulLine, StoreFull, BadWeights, BadSchedule, TraceParams, TraceWrite}
use Rattle.novac_words.specs.declared.status.Status.{Status}
use Rattle.novac_words.specs.declared.status.Status.TheVariants as status
use Rattle.novac_commands.proofs.Loads.{contents-one, stopped-read, stops-both, stops-map, unread-long, unread-one, none-long, Never}
use Rattle.novac_commands.proofs.OneAnswer.{refusal-one, makes-good, prints-good, prints-one, made-end, refused-end, makes-outcome, makes-kept, refuses-unread}
use Rattle.novac_commands.proofs.Saves.{cut-output, same-all, nothing-saved, saved-elsewhere, cut-elsewhere, done-compiled, done-reported}

-- the statuses of refusals
abbrev pub IsRefusal : Status → Type 0
IsRefusal status.Done = ⊥
IsRefusal status.Usage = ⊥
IsRefusal status.WriteFault = ⊥
IsRefusal status.Infeasible = ⊥
IsRefusal status.BudgetSpent = ⊥
IsRefusal _ = Unit {0}

pub refusal-is : (e : Refusal) → IsRefusal (refusal_status e)
refusal-is NoMemory = tt
refusal-is (ReadFault name) = tt
refusal-is (TooLarge n) = tt
refusal-is (SourceChar n) = tt
refusal-is (SourceNumber n) = tt
refusal-is (SourceName n) = tt
refusal-is (SourceSyntax n) = tt
refusal-is (SourceDeep n) = tt
refusal-is (SourceType k s) = tt
refusal-is (SourceLarge n) = tt
refusal-is (Syntax n) = tt
refusal-is (Label n) = tt
refusal-is (BadObject n) = tt
refusal-is (BadMemoryText n) = tt
refusal-is (BadReport n) = tt
refusal-is FalseReport = tt
refusal-is (Unlawful p r) = tt
refusal-is (UnlawfulLine p r) = tt
refusal-is (StoreFull n) = tt
refusal-is (BadWeights n) = tt
refusal-is (BadSchedule n) = tt
refusal-is (TraceParams code main) = tt
refusal-is (TraceWrite n) = tt

-- the sink failed, or the status r of the whole call is that of the command, and its text was printed
abbrev pub IsTold : Status → Status → List ℕ → List ℕ → List ℕ → Type 0 → Type 0 → Type 0
IsTold s r text before after T Failed = ((r ≡ status.WriteFault) × Failed) ⊎ ((r ≡ s) × (T → after ≡ before ++ text))

-- statuses that no such end has
done-outcome : (T : Type 0) (old new : Holding) (c : Command) (s : Status) (t : List ℕ) → IsDone T old new c s t → IsOutcome s
done-outcome T old new c s t h = makes-outcome c h.contents s h.files t h.makes

refused-is : (T : Type 0) (old new : Holding) (R : List ℕ → Type 0) (c : Command) (s : Status) (t : List ℕ) → IsRefused T old new R c s t → IsRefusal s
refused-is T old new R c s t h = subst IsRefusal (sym h.status_is) (refusal-is h.why)

done-not_fault : (r : Status) → r ≡ status.Done → r ≡ status.WriteFault → ⊥
done-not_fault r d w = let e : status.Done ≡ status.WriteFault = sym d ∙ w in cc

read-not_write : (r : Status) → r ≡ status.ReadFault → r ≡ status.WriteFault → ⊥
read-not_write r d w = let e : status.ReadFault ≡ status.WriteFault = sym d ∙ w in cc

usage-not_read : (r : Status) → r ≡ status.Usage → r ≡ status.ReadFault → ⊥
usage-not_read r d w = let e : status.Usage ≡ status.ReadFault = sym d ∙ w in cc

usage-not_write : (r : Status) → r ≡ status.Usage → r ≡ status.WriteFault → ⊥
usage-not_write r d w = let e : status.Usage ≡ status.WriteFault = sym d ∙ w in cc

-- the headline
compiled-end : (T : Type 0) (old new : Holding) (LR SR : List ℕ → Type 0) (source object report : List ℕ) (slots budget store : ℕ) (weights : Option (List ℕ)) (s : Status) (text : List ℕ) → T → s ≡ status.Done → (object ≡ report → ⊥)
    → HasEnded T old new LR SR (Compile source object report slots budget store weights) s text → IsCompiled old new source object report slots budget store weights text
compiled-end T old new LR SR source object report slots budget store weights s text t d apart (inl h) = done-compiled T old new source object report slots budget store weights s text t d apart h
compiled-end T old new LR SR source object report slots budget store weights s text t d apart (inr (inl w)) = absurd (done-not_fault s d w.0)
compiled-end T old new LR SR source object report slots budget store weights s text t d apart (inr (inr h)) = absurd (subst IsRefusal d (refused-is T old new LR (Compile source object report slots budget store weights) s text h))

pub compiled : (Tells : Type 0) (old new : Holding) (LR SR : List ℕ → Type 0) (s r : Status) (text before after : List ℕ) (T Failed : Type 0) → Tells → IsTold s r text before after T Failed
    → (o : Option Command) → IfCompile o (λ source object report slots budget store weights. object ≡ report → ⊥) → IfCommand o (λ c. HasEnded Tells old new LR SR c s text) → r ≡ status.Done
    → IfCompile o (λ source object report slots budget store weights. (line : List ℕ) × IsCompiled old new source object report slots budget store weights line × (T → after ≡ before ++ line))
compiled Tells old new LR SR s r text before after T Failed tells told None apart a d = tt
compiled Tells old new LR SR s r text before after T Failed tells told (Some (Run object memory steps)) apart a d = tt
compiled Tells old new LR SR s r text before after T Failed tells told (Some (Exec source memory calls)) apart a d = tt
compiled Tells old new LR SR s r text before after T Failed tells told (Some (Asm input object)) apart a d = tt
compiled Tells old new LR SR s r text before after T Failed tells told (Some (Dis object)) apart a d = tt
compiled Tells old new LR SR s r text before after T Failed tells told (Some (Lint object)) apart a d = tt
compiled Tells old new LR SR s r text before after T Failed tells told (Some (Check report)) apart a d = tt
compiled Tells old new LR SR s r text before after T Failed tells told (Some (Contexts object memory schedule)) apart a d = tt
compiled Tells old new LR SR s r text before after T Failed tells told (Some (Trace source object memory steps calls line)) apart a d = tt
compiled Tells old new LR SR s r text before after T Failed tells told (Some (Peep object output)) apart a d = tt
compiled Tells old new LR SR s r text before after T Failed tells told (Some (Counts source memory output jumps)) apart a d = tt
compiled Tells old new LR SR s r text before after T Failed tells told (Some (Gen seed size)) apart a d = tt
compiled Tells old new LR SR s r text before after T Failed tells (inl w) (Some (Compile source object report slots budget store weights)) apart a d = absurd (done-not_fault r d w.0)
compiled Tells old new LR SR s r text before after T Failed tells (inr h) (Some (Compile source object report slots budget store weights)) apart a d = (text, compiled-end Tells old new LR SR source object report slots budget store weights s text tells (sym h.0 ∙ d) apart a, h.1)

-- the report alone
without-none : (r : Status) → IfWithout r (λ v. ⊤)
without-none status.Infeasible = tt
without-none status.BudgetSpent = tt
without-none _ = tt

refused-none : (s : Status) (P : Verdict → Type 0) → IsRefusal s → IfWithout s P
refused-none status.Infeasible P h = absurd h
refused-none status.BudgetSpent P h = absurd h
refused-none _ P h = tt

fault-none : (s : Status) (P : Verdict → Type 0) → s ≡ status.WriteFault → IfWithout s P
fault-none s P w = subst (λ (x : Status). IfWithout x P) (sym w) tt

reported-end : (T : Type 0) (old new : Holding) (LR SR : List ℕ → Type 0) (source object report : List ℕ) (slots budget store : ℕ) (weights : Option (List ℕ)) (s : Status) (text : List ℕ) → T
    → HasEnded T old new LR SR (Compile source object report slots budget store weights) s text → IfWithout s (λ v. IsReported old new source report slots budget weights v)
reported-end T old new LR SR source object report slots budget store weights s text t (inl h) = done-reported T old new source object report slots budget store weights s text t h
reported-end T old new LR SR source object report slots budget store weights s text t (inr (inl w)) = fault-none s (λ v. IsReported old new source report slots budget weights v) w.0
reported-end T old new LR SR source object report slots budget store weights s text t (inr (inr h)) =
    refused-none s (λ v. IsReported old new source report slots budget weights v) (refused-is T old new LR (Compile source object report slots budget store weights) s text h)

pub reported : (Tells : Type 0) (old new : Holding) (LR SR : List ℕ → Type 0) (s r : Status) (text before after : List ℕ) (T Failed : Type 0) → Tells → IsTold s r text before after T Failed
    → (o : Option Command) → IfCommand o (λ c. HasEnded Tells old new LR SR c s text) → IfWithout r (λ v. IfCompile o (λ source object report slots budget store weights. IsReported old new source report slots budget weights v))
reported Tells old new LR SR s r text before after T Failed tells told None a = without-none r
reported Tells old new LR SR s r text before after T Failed tells told (Some (Run object memory steps)) a = without-none r
reported Tells old new LR SR s r text before after T Failed tells told (Some (Exec source memory calls)) a = without-none r
reported Tells old new LR SR s r text before after T Failed tells told (Some (Asm input object)) a = without-none r
reported Tells old new LR SR s r text before after T Failed tells told (Some (Dis object)) a = without-none r
reported Tells old new LR SR s r text before after T Failed tells told (Some (Lint object)) a = without-none r
reported Tells old new LR SR s r text before after T Failed tells told (Some (Check report)) a = without-none r
reported Tells old new LR SR s r text before after T Failed tells told (Some (Contexts object memory schedule)) a = without-none r
reported Tells old new LR SR s r text before after T Failed tells told (Some (Trace source object memory steps calls line)) a = without-none r
reported Tells old new LR SR s r text before after T Failed tells told (Some (Peep object output)) a = without-none r
reported Tells old new LR SR s r text before after T Failed tells told (Some (Counts source memory output jumps)) a = without-none r
reported Tells old new LR SR s r text before after T Failed tells told (Some (Gen seed size)) a = without-none r
reported Tells old new LR SR s r text before after T Failed tells (inl w) (Some (Compile source object report slots budget store weights)) a = fault-none r (λ v. IsReported old new source report slots budget weights v) w.0
reported Tells old new LR SR s r text before after T Failed tells (inr h) (Some (Compile source object report slots budget store weights)) a =
    subst (λ (x : Status). IfWithout x (λ v. IsReported old new source report slots budget weights v)) (sym h.0) (reported-end Tells old new LR SR source object report slots budget store weights s text tells a)

-- the line of `gen`
gen-made : (seed size : ℕ) (bs : List (List ℕ)) (s : Status) (fs : List File) (t : List ℕ) → Makes (Gen seed size) bs s fs t → (s ≡ status.Done) × IsGenerated seed size t
gen-made seed size [] s fs t h = (h.1, h.2)
gen-made seed size (b ∷ bs) s fs t h = absurd h

uncaused-memory : (e : Refusal) → IsUncaused e → refusal_status e ≡ status.NoMemory
uncaused-memory NoMemory h = refl
uncaused-memory _ h = absurd h

gen-why : (seed size : ℕ) (bs : List (List ℕ)) (e : Refusal) → Refuses (Gen seed size) bs e → GenRefuses seed size e
gen-why seed size [] e h = h
gen-why seed size (b ∷ bs) e h = absurd h

gen-cause : (T : Type 0) (old : Holding) (R : List ℕ → Type 0) (seed size : ℕ) (e : Refusal) → IsUncaused e ⊎ IsCaused T old R (Gen seed size) e → (refusal_status e ≡ status.NoMemory) ⊎ GenRefuses seed size e
gen-cause T old R seed size e (inl u) = inl (uncaused-memory e u)
gen-cause T old R seed size e (inr (inl h)) = absurd h
gen-cause T old R seed size e (inr (inr h)) = inr (gen-why seed size h.0 e h.2)

-- how it ended, before its text was printed
abbrev pub GenEnd : ℕ → ℕ → Status → List ℕ → Type 0
GenEnd seed size s text =
    (s ≡ status.WriteFault) ⊎ (s ≡ status.NoMemory) ⊎ ((s ≡ status.Done) × IsGenerated seed size text) ⊎ ((e : Refusal) × GenRefuses seed size e × (s ≡ refusal_status e) × (text ≡ refusal_text e))

gen-told : (seed size : ℕ) (s r : Status) (text before after : List ℕ) (T : Type 0) → r ≡ s → (T → after ≡ before ++ text) → GenEnd seed size s text → EndsGenerated seed size r T before after
gen-told seed size s r text before after T e p (inl w) = inl (e ∙ w)
gen-told seed size s r text before after T e p (inr (inl m)) = inr (inl (e ∙ m))
gen-told seed size s r text before after T e p (inr (inr (inl d))) = inr (inr (inl (e ∙ d.0, (text, d.1, p))))
gen-told seed size s r text before after T e p (inr (inr (inr f))) = inr (inr (inr (f.0, f.1, e ∙ f.2, λ t. p t ∙ ap (λ (x : List ℕ). before ++ x) f.3)))

gen-ended : (T : Type 0) (old new : Holding) (LR SR : List ℕ → Type 0) (seed size : ℕ) (s : Status) (text : List ℕ) → HasEnded T old new LR SR (Gen seed size) s text → GenEnd seed size s text
gen-ended T old new LR SR seed size s text (inl h) = inr (inr (inl (gen-made seed size h.contents s h.files text h.makes)))
gen-ended T old new LR SR seed size s text (inr (inl w)) = inl w.0
gen-ended T old new LR SR seed size s text (inr (inr h)) = elim (gen-cause T old LR seed size h.why h.cause) [
  | inl m ↦ inr (inl (h.status_is ∙ m))
  | inr g ↦ inr (inr (inr (h.why, g, h.status_is, h.text_is)))
]

pub generated : (Tells : Type 0) (old new : Holding) (LR SR : List ℕ → Type 0) (s r : Status) (text before after : List ℕ) (T Failed : Type 0) → IsTold s r text before after T Failed
    → (o : Option Command) → IfCommand o (λ c. HasEnded Tells old new LR SR c s text) → IfGen o (λ seed size. EndsGenerated seed size r T before after)
generated Tells old new LR SR s r text before after T Failed told None a = tt
generated Tells old new LR SR s r text before after T Failed told (Some (Compile source object report slots budget store weights)) a = tt
generated Tells old new LR SR s r text before after T Failed told (Some (Run object memory steps)) a = tt
generated Tells old new LR SR s r text before after T Failed told (Some (Exec source memory calls)) a = tt
generated Tells old new LR SR s r text before after T Failed told (Some (Asm input object)) a = tt
generated Tells old new LR SR s r text before after T Failed told (Some (Dis object)) a = tt
generated Tells old new LR SR s r text before after T Failed told (Some (Lint object)) a = tt
generated Tells old new LR SR s r text before after T Failed told (Some (Check report)) a = tt
generated Tells old new LR SR s r text before after T Failed told (Some (Contexts object memory schedule)) a = tt
generated Tells old new LR SR s r text before after T Failed told (Some (Trace source object memory steps calls line)) a = tt
generated Tells old new LR SR s r text before after T Failed told (Some (Peep object output)) a = tt
generated Tells old new LR SR s r text before after T Failed told (Some (Counts source memory output jumps)) a = tt
generated Tells old new LR SR s r text before after T Failed (inl w) (Some (Gen seed size)) a = inl w.0
generated Tells old new LR SR s r text before after T Failed (inr h) (Some (Gen seed size)) a = gen-told seed size s r text before after T h.0 h.1 (gen-ended Tells old new LR SR seed size s text a)

-- memory failed before anything was printed
pub memory-generated : (o : Option Command) (before after : List ℕ) (T : Type 0) → IfGen o (λ seed size. EndsGenerated seed size status.NoMemory T before after)
memory-generated None before after T = tt
memory-generated (Some (Compile source object report slots budget store weights)) before after T = tt
memory-generated (Some (Run object memory steps)) before after T = tt
memory-generated (Some (Exec source memory calls)) before after T = tt
memory-generated (Some (Asm input object)) before after T = tt
memory-generated (Some (Dis object)) before after T = tt
memory-generated (Some (Lint object)) before after T = tt
memory-generated (Some (Check report)) before after T = tt
memory-generated (Some (Contexts object memory schedule)) before after T = tt
memory-generated (Some (Trace source object memory steps calls line)) before after T = tt
memory-generated (Some (Peep object output)) before after T = tt
memory-generated (Some (Counts source memory output jumps)) before after T = tt
memory-generated (Some (Gen seed size)) before after T = inr (inl refl)

-- what was printed
pub printed : (Tells : Type 0) (old new : Holding) (LR SR : List ℕ → Type 0) (s r : Status) (text before after : List ℕ) (T Failed : Type 0) → IsTold s r text before after T Failed
    → (o : Option Command) → IfCommand o (λ c. HasEnded Tells old new LR SR c s text) → r ≢ status.WriteFault → IfCommand o (λ c. IsPrinted Tells old new LR c r T before after)
printed Tells old new LR SR s r text before after T Failed told None a ne = tt
printed Tells old new LR SR s r text before after T Failed (inl w) (Some c) a ne = absurd (ne w.0)
printed Tells old new LR SR s r text before after T Failed (inr h) (Some c) (inl d) ne = (text, inl (subst (λ (x : Status). IsDone Tells old new c x text) (sym h.0) d), h.1)
printed Tells old new LR SR s r text before after T Failed (inr h) (Some c) (inr (inl w)) ne = absurd (ne (h.0 ∙ w.0))
printed Tells old new LR SR s r text before after T Failed (inr h) (Some c) (inr (inr e)) ne = (text, inr (subst (λ (x : Status). IsRefused Tells old new LR c x text) (sym h.0) e), h.1)

-- where the whole call ended with a write fault
begun-end : (Tells : Type 0) (old new : Holding) (LR SR : List ℕ → Type 0) (s r : Status) (text before after : List ℕ) (T Failed : Type 0) (c : Command) → IsTold s r text before after T Failed
    → HasEnded Tells old new LR SR c s text → r ≡ status.WriteFault → IsStopped Tells old new SR c text ⊎ (Failed × ((x : Status) × Ends Tells old new LR c x text))
begun-end Tells old new LR SR s r text before after T Failed c told (inr (inl w)) is = inl w.1
begun-end Tells old new LR SR s r text before after T Failed c (inl w) (inl d) is = inr (w.1, (s, inl d))
begun-end Tells old new LR SR s r text before after T Failed c (inl w) (inr (inr e)) is = inr (w.1, (s, inr e))
begun-end Tells old new LR SR s r text before after T Failed c (inr h) (inl d) is = absurd (subst IsOutcome (sym h.0 ∙ is) (done-outcome Tells old new c s text d))
begun-end Tells old new LR SR s r text before after T Failed c (inr h) (inr (inr e)) is = absurd (subst IsRefusal (sym h.0 ∙ is) (refused-is Tells old new LR c s text e))

pub begun : (Tells : Type 0) (old new : Holding) (LR SR : List ℕ → Type 0) (s r : Status) (text before after : List ℕ) (T Failed : Type 0) → IsTold s r text before after T Failed → (T → AppendsFront before after text)
    → (o : Option Command) → IfCommand o (λ c. HasEnded Tells old new LR SR c s text) → r ≡ status.WriteFault → IfCommand o (λ c. IsBegun Tells old new LR SR c Failed T before after)
begun Tells old new LR SR s r text before after T Failed told front None a is = tt
begun Tells old new LR SR s r text before after T Failed told front (Some c) a is = record {
  text = text;
  cause = begun-end Tells old new LR SR s r text before after T Failed c told a is;
  front = front;
}

-- a refusal that is true is the one that was given, unless that is free
same-cause : (T : Type 0) (old : Holding) (R : List ℕ → Type 0) (c : Command) (e e' : Refusal) → T → IsCaused T old R c e → IsRefusable c old e' → IsFree (refusal_status e) ⊎ (e ≡ e')
same-cause T old R c e e' t (inl h) (inl k) =
    stops-both T (IsFree (refusal_status e) ⊎ (e ≡ e')) old (inputs_of c) (IsUnread T old R e) (IsUnread ⊤ old Never e') t
    (λ i u. elim (unread-long T old R e i t u) [
      | inl f ↦ inl (inl f)
      | inr l ↦ inr l
    ]) (none-long old e') (unread-one T old R e e') h k
same-cause T old R c e e' t (inl h) (inr k) = inl (stopped-read T ⊤ (IsFree (refusal_status e)) old (inputs_of c) k.0 (IsUnread T old R e) tt (λ i u. unread-long T old R e i t u) h k.1)
same-cause T old R c e e' t (inr h) (inl k) = absurd (stopped-read ⊤ T ⊥ old (inputs_of c) h.0 (IsUnread ⊤ old Never e') t (λ i u. inr (none-long old e' i u)) k h.1)
same-cause T old R c e e' t (inr h) (inr k) =
    let same = contents-one T old (inputs_of c) h.0 k.0 t h.1 k.1 in
    inr (refusal-one c k.0 e e' (subst (λ (x : List (List ℕ)). Refuses c x e) same h.2) k.2)

uncaused-free : (e : Refusal) → IsUncaused e → IsFree (refusal_status e)
uncaused-free NoMemory h = inr (inr refl)
uncaused-free _ h = absurd h

-- what was done isn't refused
done-refusable : (T : Type 0) (old new : Holding) (c : Command) (s : Status) (t : List ℕ) (e : Refusal) → T → IsDone T old new c s t → IsRefusable c old e → ⊥
done-refusable T old new c s t e tells h (inl k) = stopped-read ⊤ T ⊥ old (inputs_of c) h.contents (IsUnread ⊤ old Never e) tells (λ i u. inr (none-long old e i u)) k h.read
done-refusable T old new c s t e tells h (inr k) =
    let same = contents-one T old (inputs_of c) h.contents k.0 tells h.read k.1 in
    makes-good c k.0 s h.files t e (subst (λ (x : List (List ℕ)). Makes c x s h.files t) same h.makes) k.2

refused-only : (Tells : Type 0) (old new : Holding) (LR SR : List ℕ → Type 0) (c : Command) (s : Status) (t : List ℕ) (e : Refusal) → Tells → HasEnded Tells old new LR SR c s t → IsRefusable c old e
    → IsFree s ⊎ ((s ≡ refusal_status e) × (t ≡ refusal_text e))
refused-only Tells old new LR SR c s t e tells (inl h) k = absurd (done-refusable Tells old new c s t e tells h k)
refused-only Tells old new LR SR c s t e tells (inr (inl h)) k = inl (inr (inl h.0))
refused-only Tells old new LR SR c s t e tells (inr (inr h)) k = elim h.cause [
  | inl u ↦ inl (subst IsFree (sym h.status_is) (uncaused-free h.why u))
  | inr r ↦
      elim (same-cause Tells old LR c h.why e tells r k) [
        | inl f ↦ inl (subst IsFree (sym h.status_is) f)
        | inr same ↦ inr (h.status_is ∙ ap refusal_status same, h.text_is ∙ ap refusal_text same)
      ]
]

-- where all inputs are read and their contents aren't refused, a refusal is free
good-free : (T : Type 0) (old : Holding) (R : List ℕ → Type 0) (c : Command) (e : Refusal) (bs : List (List ℕ)) → T → AreRead ⊤ old (inputs_of c) bs → (Refuses c bs e → ⊥) → IsUncaused e ⊎ IsCaused T old R c e → IsFree (refusal_status e)
good-free T old R c e bs t read good (inl u) = uncaused-free e u
good-free T old R c e bs t read good (inr (inl h)) = stopped-read T ⊤ (IsFree (refusal_status e)) old (inputs_of c) bs (IsUnread T old R e) tt (λ i u. unread-long T old R e i t u) h read
good-free T old R c e bs t read good (inr (inr h)) =
    let same = contents-one T old (inputs_of c) h.0 bs t h.1 read in
    absurd (good (subst (λ (x : List (List ℕ)). Refuses c x e) same h.2))

shown-only : (Tells : Type 0) (old new : Holding) (LR SR : List ℕ → Type 0) (c : Command) (s s' : Status) (t t' : List ℕ) → Tells → HasEnded Tells old new LR SR c s t → Shows c old s' t'
    → IsFree s ⊎ ((s ≡ s') × (t ≡ t'))
shown-only Tells old new LR SR c s s' t t' tells (inl h) k =
    let same = contents-one Tells old (inputs_of c) h.contents k.0 tells h.read k.1 in
    inr (prints-one c k.0 s s' h.files t t' (subst (λ (x : List (List ℕ)). Makes c x s h.files t) same h.makes) k.2)
shown-only Tells old new LR SR c s s' t t' tells (inr (inl h)) k = inl (inr (inl h.0))
shown-only Tells old new LR SR c s s' t t' tells (inr (inr h)) k =
    inl (subst IsFree (sym h.status_is) (good-free Tells old LR c h.why k.0 tells k.1 (prints-good c k.0 s' t' h.why k.2) h.cause))

-- how a command can end, where all inputs are read and it can make something of their contents
can-end : (T : Type 0) (old : Holding) (R : List ℕ → Type 0) (c : Command) (e : Refusal) (bs : List (List ℕ)) → T → AreRead ⊤ old (inputs_of c) bs → CanMake c bs → IsUncaused e ⊎ IsCaused T old R c e → IsFree (refusal_status e) ⊎ CanEnd c bs (refusal_status e)
can-end T old R c e bs t read can (inl u) = inl (uncaused-free e u)
can-end T old R c e bs t read can (inr (inl h)) = inl (stopped-read T ⊤ (IsFree (refusal_status e)) old (inputs_of c) bs (IsUnread T old R e) tt (λ i u. unread-long T old R e i t u) h read)
can-end T old R c e bs t read can (inr (inr h)) =
    let same = contents-one T old (inputs_of c) h.0 bs t h.1 read in
    inr (refused-end c bs e (subst (λ (x : List (List ℕ)). Refuses c x e) same h.2) can)

made-only : (Tells : Type 0) (old new : Holding) (LR SR : List ℕ → Type 0) (c : Command) (s : Status) (t : List ℕ) (bs : List (List ℕ)) → Tells → HasEnded Tells old new LR SR c s t → AreRead ⊤ old (inputs_of c) bs → CanMake c bs → IsFree s ⊎ CanEnd c bs s
made-only Tells old new LR SR c s t bs tells (inl h) read can =
    let same = contents-one Tells old (inputs_of c) h.contents bs tells h.read read in
    inr (made-end c bs s h.files t (subst (λ (x : List (List ℕ)). Makes c x s h.files t) same h.makes) can)
made-only Tells old new LR SR c s t bs tells (inr (inl h)) read can = inl (inr (inl h.0))
made-only Tells old new LR SR c s t bs tells (inr (inr h)) read can = elim (can-end Tells old LR c h.why bs tells read can h.cause) [
  | inl f ↦ inl (subst IsFree (sym h.status_is) f)
  | inr e ↦ inr (subst (CanEnd c bs) (sym h.status_is) e)
]

-- the status and the text, from what they must be where they aren't free
only : (s r want : Status) (text line before after : List ℕ) (T Failed : Type 0) → IsTold s r text before after T Failed
    → IsFree s ⊎ ((s ≡ want) × (text ≡ line)) → IsOnly r want T before after line
only s r want text line before after T Failed (inl w) a = inl (inr (inl w.0))
only s r want text line before after T Failed (inr h) (inl free) = inl (subst IsFree (sym h.0) free)
only s r want text line before after T Failed (inr h) (inr is) = inr (h.0 ∙ is.0, λ t. h.1 t ∙ ap (λ (x : List ℕ). before ++ x) is.1)

pub only-refused : (Tells : Type 0) (old new : Holding) (LR SR : List ℕ → Type 0) (s r : Status) (text before after : List ℕ) (T Failed : Type 0) → Tells → IsTold s r text before after T Failed
    → (o : Option Command) → IfCommand o (λ c. HasEnded Tells old new LR SR c s text)
    → IfCommand o (λ c. (e : Refusal) → IsRefusable c old e → IsOnly r (refusal_status e) T before after (refusal_text e))
only-refused Tells old new LR SR s r text before after T Failed tells told None a = tt
only-refused Tells old new LR SR s r text before after T Failed tells told (Some c) a = λ e k.
    only s r (refusal_status e) text (refusal_text e) before after T Failed told (refused-only Tells old new LR SR c s text e tells a k)

pub only-shown : (Tells : Type 0) (old new : Holding) (LR SR : List ℕ → Type 0) (s r : Status) (text before after : List ℕ) (T Failed : Type 0) → Tells → IsTold s r text before after T Failed
    → (o : Option Command) → IfCommand o (λ c. HasEnded Tells old new LR SR c s text)
    → IfCommand o (λ c. (s' : Status) (t' : List ℕ) → Shows c old s' t' → IsOnly r s' T before after t')
only-shown Tells old new LR SR s r text before after T Failed tells told None a = tt
only-shown Tells old new LR SR s r text before after T Failed tells told (Some c) a = λ s' t' k.
    only s r s' text t' before after T Failed told (shown-only Tells old new LR SR c s s' text t' tells a k)

told-made : (s r : Status) (text before after : List ℕ) (T Failed : Type 0) (P : Status → Type 0) → IsTold s r text before after T Failed → IsFree s ⊎ P s → IsFree r ⊎ P r
told-made s r text before after T Failed P (inl w) a = inl (inr (inl w.0))
told-made s r text before after T Failed P (inr h) (inl free) = inl (subst IsFree (sym h.0) free)
told-made s r text before after T Failed P (inr h) (inr p) = inr (subst P (sym h.0) p)

pub only-made : (Tells : Type 0) (old new : Holding) (LR SR : List ℕ → Type 0) (s r : Status) (text before after : List ℕ) (T Failed : Type 0) → Tells → IsTold s r text before after T Failed
    → (o : Option Command) → IfCommand o (λ c. HasEnded Tells old new LR SR c s text)
    → IfCommand o (λ c. (bs : List (List ℕ)) → AreRead ⊤ old (inputs_of c) bs → CanMake c bs → IsFree r ⊎ CanEnd c bs r)
only-made Tells old new LR SR s r text before after T Failed tells told None a = tt
only-made Tells old new LR SR s r text before after T Failed tells told (Some c) a = λ bs read can.
    told-made s r text before after T Failed (CanEnd c bs) told (made-only Tells old new LR SR c s text bs tells a read can)

-- the cause of a read fault
fault-input : (T : Type 0) (held : Holding) (R : List ℕ → Type 0) (c : Command) (e : Refusal) → refusal_status e ≡ status.ReadFault → IsUncaused e ⊎ IsCaused T held R c e
    → StopsAt T held (inputs_of c) (λ i. R i.name × (refusal_text e ≡ cannot_read i.name))
fault-input T held R c (ReadFault name) is (inl u) = absurd u
fault-input T held R c (ReadFault name) is (inr (inl h)) =
    stops-map T held (inputs_of c) (IsUnread T held R (ReadFault name)) (λ i. R i.name × (refusal_text (ReadFault name) ≡ cannot_read i.name)) (λ i u. (u.1, ap cannot_read u.0)) h
fault-input T held R c (ReadFault name) is (inr (inr h)) = absurd (refuses-unread (ReadFault name) c h.0 tt h.2)
fault-input T held R c NoMemory is h = absurd cc
fault-input T held R c (TooLarge n) is h = absurd cc
fault-input T held R c (SourceChar n) is h = absurd cc
fault-input T held R c (SourceNumber n) is h = absurd cc
fault-input T held R c (SourceName n) is h = absurd cc
fault-input T held R c (SourceSyntax n) is h = absurd cc
fault-input T held R c (SourceDeep n) is h = absurd cc
fault-input T held R c (SourceType k s) is h = absurd cc
fault-input T held R c (SourceLarge n) is h = absurd cc
fault-input T held R c (Syntax n) is h = absurd cc
fault-input T held R c (Label n) is h = absurd cc
fault-input T held R c (BadObject n) is h = absurd cc
fault-input T held R c (BadMemoryText n) is h = absurd cc
fault-input T held R c (BadReport n) is h = absurd cc
fault-input T held R c FalseReport is h = absurd cc
fault-input T held R c (Unlawful p r) is h = absurd cc
fault-input T held R c (UnlawfulLine p r) is h = absurd cc
fault-input T held R c (StoreFull n) is h = absurd cc
fault-input T held R c (BadWeights n) is h = absurd cc
fault-input T held R c (BadSchedule n) is h = absurd cc
fault-input T held R c (TraceParams code main) is h = absurd cc
fault-input T held R c (TraceWrite n) is h = absurd cc

read-end : (Tells : Type 0) (old new : Holding) (LR SR : List ℕ → Type 0) (c : Command) (s : Status) (text : List ℕ) → s ≡ status.ReadFault → HasEnded Tells old new LR SR c s text
    → StopsAt Tells old (inputs_of c) (λ i. LR i.name × (text ≡ cannot_read i.name))
read-end Tells old new LR SR c s text is (inl h) = absurd (subst IsOutcome is (done-outcome Tells old new c s text h))
read-end Tells old new LR SR c s text is (inr (inl h)) = absurd (read-not_write s is h.0)
read-end Tells old new LR SR c s text is (inr (inr h)) =
    stops-map Tells old (inputs_of c) (λ i. LR i.name × (refusal_text h.why ≡ cannot_read i.name)) (λ i. LR i.name × (text ≡ cannot_read i.name)) (λ i both. (both.0, h.text_is ∙ both.1))
    (fault-input Tells old LR c h.why (sym h.status_is ∙ is) h.cause)

pub read-fault : (Tells : Type 0) (old new : Holding) (LR SR : List ℕ → Type 0) (s r : Status) (text before after : List ℕ) (T Failed : Type 0) → IsTold s r text before after T Failed
    → (o : Option Command) → (o ≡ None → s ≡ status.Usage) → IfCommand o (λ c. HasEnded Tells old new LR SR c s text)
    → r ≡ status.ReadFault → ForCommand o (λ c. StopsAt Tells old (inputs_of c) (λ i. LR i.name × (T → after ≡ before ++ cannot_read i.name)))
read-fault Tells old new LR SR s r text before after T Failed (inl w) o usage a is = absurd (read-not_write r is w.0)
read-fault Tells old new LR SR s r text before after T Failed (inr h) None usage a is = absurd (usage-not_read s (usage refl) (sym h.0 ∙ is))
read-fault Tells old new LR SR s r text before after T Failed (inr h) (Some c) usage a is =
    stops-map Tells old (inputs_of c) (λ i. LR i.name × (text ≡ cannot_read i.name)) (λ i. LR i.name × (T → after ≡ before ++ cannot_read i.name))
    (λ i both. (both.0, λ t. h.1 t ∙ ap (λ (x : List ℕ). before ++ x) both.1)) (read-end Tells old new LR SR c s text (sym h.0 ∙ is) a)

-- and of a write fault
write-end : (Tells : Type 0) (old new : Holding) (LR SR : List ℕ → Type 0) (c : Command) (s : Status) (text : List ℕ) → s ≡ status.WriteFault → HasEnded Tells old new LR SR c s text
    → SomeFile (outputs_of c) (λ file. SR file × (text ≡ cannot_write file))
write-end Tells old new LR SR c s text is (inl h) = absurd (subst IsOutcome is (done-outcome Tells old new c s text h))
write-end Tells old new LR SR c s text is (inr (inl h)) =
    cut-output Tells c h.1.contents h.1.made h.1.files h.1.line old new (λ file. SR file × (text ≡ cannot_write file)) h.1.makes h.1.cut
write-end Tells old new LR SR c s text is (inr (inr h)) = absurd (subst IsRefusal is (refused-is Tells old new LR c s text h))

pub write-fault : (Tells : Type 0) (old new : Holding) (LR SR : List ℕ → Type 0) (s r : Status) (text before after : List ℕ) (T Failed : Type 0) → IsTold s r text before after T Failed
    → (o : Option Command) → (o ≡ None → s ≡ status.Usage) → IfCommand o (λ c. HasEnded Tells old new LR SR c s text)
    → r ≡ status.WriteFault → Failed ⊎ ForCommand o (λ c. SomeFile (outputs_of c) (λ file. SR file × (T → after ≡ before ++ cannot_write file)))
write-fault Tells old new LR SR s r text before after T Failed (inl w) o usage a is = inl w.1
write-fault Tells old new LR SR s r text before after T Failed (inr h) None usage a is = absurd (usage-not_write s (usage refl) (sym h.0 ∙ is))
write-fault Tells old new LR SR s r text before after T Failed (inr h) (Some c) usage a is =
    let some = write-end Tells old new LR SR c s text (sym h.0 ∙ is) a in
    inr (some.0, some.1, (some.2.0, λ t. h.1 t ∙ ap (λ (x : List ℕ). before ++ x) some.2.1))

-- what stays as it was
kept-end : (Tells : Type 0) (old new : Holding) (LR SR : List ℕ → Type 0) (c : Command) (s : Status) (text : List ℕ) → Tells → (MaySave s → ⊥) → HasEnded Tells old new LR SR c s text → new ≡ old
kept-end Tells old new LR SR c s text tells never (inl h) = elim (makes-kept c h.contents s h.files text h.makes) [
  | inl m ↦ absurd (never m)
  | inr e ↦ nothing-saved h.files old new e (h.saved tells)
]
kept-end Tells old new LR SR c s text tells never (inr (inl h)) = absurd (never (subst MaySave (sym h.0) tt))
kept-end Tells old new LR SR c s text tells never (inr (inr h)) = h.kept

pub unchanged : (Tells : Type 0) (old new : Holding) (LR SR : List ℕ → Type 0) (s r : Status) (text before after : List ℕ) (T Failed : Type 0) → Tells → IsTold s r text before after T Failed
    → (o : Option Command) → (o ≡ None → new ≡ old) → IfCommand o (λ c. HasEnded Tells old new LR SR c s text) → (MaySave r → ⊥) → new ≡ old
unchanged Tells old new LR SR s r text before after T Failed tells (inl w) o none a never = absurd (never (subst MaySave (sym w.0) tt))
unchanged Tells old new LR SR s r text before after T Failed tells (inr h) None none a never = none refl
unchanged Tells old new LR SR s r text before after T Failed tells (inr h) (Some c) none a never = kept-end Tells old new LR SR c s text tells (λ m. never (subst MaySave (sym h.0) m)) a

elsewhere-end : (Tells : Type 0) (old new : Holding) (LR SR : List ℕ → Type 0) (c : Command) (s : Status) (text : List ℕ) → Tells → HasEnded Tells old new LR SR c s text → IsSameBut (outputs_of c) old new
elsewhere-end Tells old new LR SR c s text tells (inl h) = saved-elsewhere c h.contents s h.files text old new h.makes (h.saved tells)
elsewhere-end Tells old new LR SR c s text tells (inr (inl h)) =
    cut-elsewhere Tells c h.1.contents h.1.made h.1.files h.1.line old new (λ name. SR name × (text ≡ cannot_write name)) tells h.1.makes h.1.cut
elsewhere-end Tells old new LR SR c s text tells (inr (inr h)) = same-all (outputs_of c) old new h.kept

pub elsewhere : (Tells : Type 0) (old new : Holding) (LR SR : List ℕ → Type 0) (s : Status) (text : List ℕ) → Tells → (o : Option Command) → IfCommand o (λ c. HasEnded Tells old new LR SR c s text)
    → IfCommand o (λ c. IsSameBut (outputs_of c) old new)
elsewhere Tells old new LR SR s text tells None a = tt
elsewhere Tells old new LR SR s text tells (Some c) a = elsewhere-end Tells old new LR SR c s text tells a

pub all-same : (old new : Holding) (o : Option Command) → new ≡ old → IfCommand o (λ c. IsSameBut (outputs_of c) old new)
all-same old new None e = tt
all-same old new (Some c) e = same-all (outputs_of c) old new e

-- memory exhaustion prints nothing
pub memory-printed : (Tells : Type 0) (old new : Holding) (LR : List ℕ → Type 0) (before : List ℕ) (T : Type 0) (o : Option Command) → new ≡ old → IfCommand o (λ c. IsPrinted Tells old new LR c status.NoMemory T before before)
memory-printed Tells old new LR before T None kept = tt
memory-printed Tells old new LR before T (Some c) kept =
    ([], inr (record { why = NoMemory; cause = inl tt; kept = kept; status_is = refl; text_is = refl }), λ t. sym (append-nil before))
