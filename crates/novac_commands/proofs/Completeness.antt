-- What must be compiled is, unless a count of faults rose or memory was wanting.
use Rattle.std.proofs.Common.{◌≡◌, ℕ, zero, suc, ◌<◌, ◌⊎◌, inl, inr, ⊎_elim, List, [], ◌∷◌, Option, Some, None, length, sym, subst, arith}
use Rattle.std.specs.Prelude.{slice_index_or, ⊤}
use Rattle.nv_outside.specs.Holding.{Holding}
use Rattle.novac_words.specs.Command.{Command, Compile, Run, Exec, Asm, Dis, Lint, Check, Gen, Contexts, Peep, Trace, Counts, IfCommand, IfCompile, IfGen, ForCommand, SomeFile, outputs_of}
use Rattle.novac_words.specs.declared.status.Status.{Status}
use Rattle.novac_words.specs.declared.status.Status.TheVariants as status
use Rattle.novac_commands.specs.Answers.{CanMake, CanEnd, IsFree}
use Rattle.novac_commands.specs.Generating.{IsSmallMade, EndsGenerated}
use Rattle.novac_commands.specs.Compiling.{IfNamed, IsCompilable, IsUndisturbed}
use Rattle.novac_commands.specs.Weighing.{AreWeighed}
use Rattle.novac_commands.specs.Loading.{Input, input, AreRead, StopsAt, inputs_of}
use Rattle.novac_words.specs.Inputs.{weights_input}
use Rattle.novac_words.specs.Limits.{source_limit, weights_limit}
use Rattle.novac_commands.proofs.Complete.{compiles, no-refusal}

-- it is done, or memory was wanting
abbrev pub IsDoneUnlessMemory : Status → Type 0
IsDoneUnlessMemory r = (r ≡ status.Done) ⊎ (r ≡ status.NoMemory)

-- ---- by a fault of a file or of the sink

-- the named file is read
unread-weights : (LR X : List ℕ → Type 0) (weights : Option (List ℕ)) → IfNamed weights (λ name. ¬ LR name) → IfNamed weights (λ name. LR name × X name → ⊥)
unread-weights LR X None calm = tt
unread-weights LR X (Some name) calm = λ both. calm both.0

no-weights : (T : Type 0) (old : Holding) (weights : Option (List ℕ)) (P : Input → Type 0) → IfNamed weights (λ name. P (input name weights_limit) → ⊥) → StopsAt T old (weights_input weights) P → ⊥
no-weights T old None P none h = h
no-weights T old (Some name) P none (inl p) = none p
no-weights T old (Some name) P none (inr w) = absurd w.2

no-read : (T : Type 0) (old : Holding) (i : Input) (weights : Option (List ℕ)) (P : Input → Type 0) → (P i → ⊥) → IfNamed weights (λ name. P (input name weights_limit) → ⊥) → StopsAt T old (i ∷ weights_input weights) P → ⊥
no-read T old i weights P none calm (inl p) = none p
no-read T old i weights P none calm (inr w) = no-weights T old weights P calm w.2

one-of-two : (a b : List ℕ) (P : List ℕ → Type 0) → SomeFile (a ∷ b ∷ []) P → P a ⊎ P b
one-of-two a b P h = at h.1.0 h.1.1 h.1.2
  where
    at : (k : ℕ) → k < length (a ∷ b ∷ []) → slice_index_or (a ∷ b ∷ []) k h.0 ≡ h.0 → P a ⊎ P b
    at zero l e = inl (subst P (sym e) h.2)
    at (suc zero) l e = inr (subst P (sym e) h.2)
    at (suc (suc k)) l e = absurd (omega (arith, l))

-- ---- `compile`

-- how the call ended, as far as that is known of each command
pub record HowEnded (Tells : Type 0) (old : Holding) (LR SR : List ℕ → Type 0) (Failed : Type 0) (X Y : List ℕ → Type 0) (r : Status) (o : Option Command) : Type 0 where
  pub made : IfCommand o (λ c. (bs : List (List ℕ)) → AreRead ⊤ old (inputs_of c) bs → CanMake c bs → IsFree r ⊎ CanEnd c bs r)
  pub unread : r ≡ status.ReadFault → ForCommand o (λ c. StopsAt Tells old (inputs_of c) (λ i. LR i.name × X i.name))
  pub unwritten : r ≡ status.WriteFault → Failed ⊎ ForCommand o (λ c. SomeFile (outputs_of c) (λ file. SR file × Y file))

free-memory : (Tells : Type 0) (old : Holding) (LR SR : List ℕ → Type 0) (Failed : Type 0) (X Y : List ℕ → Type 0) (r : Status) (source object report : List ℕ) (slots budget store : ℕ) (weights : Option (List ℕ))
    → HowEnded Tells old LR SR Failed X Y r (Some (Compile source object report slots budget store weights)) → IsUndisturbed LR SR Failed source object report weights → IsFree r → r ≡ status.NoMemory
free-memory Tells old LR SR Failed X Y r source object report slots budget store weights h calm (inl read) =
    absurd (no-read Tells old (input source source_limit) weights (λ i. LR i.name × X i.name) (λ both. calm.source both.0) (unread-weights LR X weights calm.weights) (h.unread read))
free-memory Tells old LR SR Failed X Y r source object report slots budget store weights h calm (inr (inl write)) = ⊎_elim
    (λ (f : Failed). absurd (calm.sink f))
    (λ (s : SomeFile (object ∷ report ∷ []) (λ file. SR file × Y file)). ⊎_elim
    (λ (a : SR object × Y object). absurd (calm.object a.0))
    (λ (b : SR report × Y report). absurd (calm.report b.0))
    (one-of-two object report (λ file. SR file × Y file) s))
    (h.unwritten write)
free-memory Tells old LR SR Failed X Y r source object report slots budget store weights h calm (inr (inr none)) = none

-- what is read of the files that are named
contents-read : (old : Holding) (source : List ℕ) (slots store : ℕ) (weights : Option (List ℕ)) (can : IsCompilable old source slots store weights)
    → (g : List (List ℕ)) × AreWeighed g can.ws × AreRead ⊤ old (weights_input weights) g
contents-read old source slots store None can = ([], can.weighed, tt)
contents-read old source slots store (Some name) can =
    let w = can.weighed in
    (w.0 ∷ [], w.3, (record { short = w.2; here = λ _. w.1 }, tt))

must-compile : (Tells : Type 0) (old : Holding) (LR SR : List ℕ → Type 0) (Failed : Type 0) (X Y : List ℕ → Type 0) (r : Status) (source object report : List ℕ) (slots budget store : ℕ) (weights : Option (List ℕ))
    → HowEnded Tells old LR SR Failed X Y r (Some (Compile source object report slots budget store weights)) → IsCompilable old source slots store weights → IsUndisturbed LR SR Failed source object report weights → IsDoneUnlessMemory r
must-compile Tells old LR SR Failed X Y r source object report slots budget store weights h can calm =
    let given = contents-read old source slots store weights can in
    ⊎_elim
    (λ (f : IsFree r). inr (free-memory Tells old LR SR Failed X Y r source object report slots budget store weights h calm f))
    (λ (e : CanEnd (Compile source object report slots budget store weights) (can.text ∷ given.0) r). inl (compiles old source object report slots budget store weights given.0 r can e))
    (h.made (can.text ∷ given.0) (record { short = can.short; here = λ _. can.here }, given.2) (can.program, can.is_source, (can.ws, given.1)))

pub complete : (Tells : Type 0) (old : Holding) (LR SR : List ℕ → Type 0) (Failed : Type 0) (X Y : List ℕ → Type 0) (r : Status) (o : Option Command) → HowEnded Tells old LR SR Failed X Y r o
    → IfCompile o (λ source object report slots budget store weights. IsCompilable old source slots store weights → IsUndisturbed LR SR Failed source object report weights → IsDoneUnlessMemory r)
complete Tells old LR SR Failed X Y r None h = tt
complete Tells old LR SR Failed X Y r (Some (Run object memory steps)) h = tt
complete Tells old LR SR Failed X Y r (Some (Exec source memory calls)) h = tt
complete Tells old LR SR Failed X Y r (Some (Asm input object)) h = tt
complete Tells old LR SR Failed X Y r (Some (Dis object)) h = tt
complete Tells old LR SR Failed X Y r (Some (Lint object)) h = tt
complete Tells old LR SR Failed X Y r (Some (Check report)) h = tt
complete Tells old LR SR Failed X Y r (Some (Contexts object memory schedule)) h = tt
complete Tells old LR SR Failed X Y r (Some (Trace source object memory steps calls line)) h = tt
complete Tells old LR SR Failed X Y r (Some (Peep object output)) h = tt
complete Tells old LR SR Failed X Y r (Some (Counts source memory output jumps)) h = tt
complete Tells old LR SR Failed X Y r (Some (Gen seed size)) h = tt
complete Tells old LR SR Failed X Y r (Some (Compile source object report slots budget store weights)) h = must-compile Tells old LR SR Failed X Y r source object report slots budget store weights h

-- ---- `gen`

no-file : (P : List ℕ → Type 0) → SomeFile [] P → ⊥
no-file P h = omega (arith, h.1.1)

must-generate : (SR : List ℕ → Type 0) (Failed T : Type 0) (Y : List ℕ → Type 0) (r : Status) (before after : List ℕ) (seed size : ℕ) → EndsGenerated seed size r T before after
    → (r ≡ status.WriteFault → Failed ⊎ SomeFile [] (λ file. SR file × Y file)) → IsSmallMade seed size → (Failed → ⊥) → IsDoneUnlessMemory r
must-generate SR Failed T Y r before after seed size (inl w) unwritten small calm = ⊎_elim
    (λ (f : Failed). absurd (calm f))
    (λ (s : SomeFile [] (λ file. SR file × Y file)). absurd (no-file (λ file. SR file × Y file) s))
    (unwritten w)
must-generate SR Failed T Y r before after seed size (inr (inl m)) unwritten small calm = inr m
must-generate SR Failed T Y r before after seed size (inr (inr (inl d))) unwritten small calm = inl d.0
must-generate SR Failed T Y r before after seed size (inr (inr (inr f))) unwritten small calm = absurd (no-refusal seed size f.0 small f.1)

pub made-complete : (SR : List ℕ → Type 0) (Failed T : Type 0) (Y : List ℕ → Type 0) (r : Status) (before after : List ℕ) (o : Option Command) → IfGen o (λ seed size. EndsGenerated seed size r T before after)
    → (r ≡ status.WriteFault → Failed ⊎ ForCommand o (λ c. SomeFile (outputs_of c) (λ file. SR file × Y file))) → IfGen o (λ seed size. IsSmallMade seed size → (Failed → ⊥) → IsDoneUnlessMemory r)
made-complete SR Failed T Y r before after None h w = tt
made-complete SR Failed T Y r before after (Some (Compile source object report slots budget store weights)) h w = tt
made-complete SR Failed T Y r before after (Some (Run object memory steps)) h w = tt
made-complete SR Failed T Y r before after (Some (Exec source memory calls)) h w = tt
made-complete SR Failed T Y r before after (Some (Asm input object)) h w = tt
made-complete SR Failed T Y r before after (Some (Dis object)) h w = tt
made-complete SR Failed T Y r before after (Some (Lint object)) h w = tt
made-complete SR Failed T Y r before after (Some (Check report)) h w = tt
made-complete SR Failed T Y r before after (Some (Contexts object memory schedule)) h w = tt
made-complete SR Failed T Y r before after (Some (Trace source object memory steps calls line)) h w = tt
made-complete SR Failed T Y r before after (Some (Peep object output)) h w = tt
made-complete SR Failed T Y r before after (Some (Counts source memory output jumps)) h w = tt
made-complete SR Failed T Y r before after (Some (Gen seed size)) h w = must-generate SR Failed T Y r before after seed size h w

-- ---- memory failed before anything was done

pub memory-complete : (old : Holding) (LR SR : List ℕ → Type 0) (Failed : Type 0) (r : Status) (o : Option Command) → r ≡ status.NoMemory
    → IfCompile o (λ source object report slots budget store weights. IsCompilable old source slots store weights → IsUndisturbed LR SR Failed source object report weights → IsDoneUnlessMemory r)
memory-complete old LR SR Failed r None m = tt
memory-complete old LR SR Failed r (Some (Run object memory steps)) m = tt
memory-complete old LR SR Failed r (Some (Exec source memory calls)) m = tt
memory-complete old LR SR Failed r (Some (Asm input object)) m = tt
memory-complete old LR SR Failed r (Some (Dis object)) m = tt
memory-complete old LR SR Failed r (Some (Lint object)) m = tt
memory-complete old LR SR Failed r (Some (Check report)) m = tt
memory-complete old LR SR Failed r (Some (Contexts object memory schedule)) m = tt
memory-complete old LR SR Failed r (Some (Trace source object memory steps calls line)) m = tt
memory-complete old LR SR Failed r (Some (Peep object output)) m = tt
memory-complete old LR SR Failed r (Some (Counts source memory output jumps)) m = tt
memory-complete old LR SR Failed r (Some (Gen seed size)) m = tt
memory-complete old LR SR Failed r (Some (Compile source object report slots budget store weights)) m = λ can calm. inr m

pub memory-made : (Failed : Type 0) (r : Status) (o : Option Command) → r ≡ status.NoMemory → IfGen o (λ seed size. IsSmallMade seed size → (Failed → ⊥) → IsDoneUnlessMemory r)
memory-made Failed r None m = tt
memory-made Failed r (Some (Compile source object report slots budget store weights)) m = tt
memory-made Failed r (Some (Run object memory steps)) m = tt
memory-made Failed r (Some (Exec source memory calls)) m = tt
memory-made Failed r (Some (Asm input object)) m = tt
memory-made Failed r (Some (Dis object)) m = tt
memory-made Failed r (Some (Lint object)) m = tt
memory-made Failed r (Some (Check report)) m = tt
memory-made Failed r (Some (Contexts object memory schedule)) m = tt
memory-made Failed r (Some (Trace source object memory steps calls line)) m = tt
memory-made Failed r (Some (Peep object output)) m = tt
memory-made Failed r (Some (Counts source memory output jumps)) m = tt
memory-made Failed r (Some (Gen seed size)) m = λ small calm. inr m
