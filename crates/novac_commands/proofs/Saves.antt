-- The files that a command saves.
use Rattle.std.proofs.Common.{◌≡◌, ℕ, ◌⊎◌, inl, inr, List, [], ◌∷◌, Option, Some, None, refl, ap, sym, ◌∙◌, subst, arith}
use Rattle.std.specs.Prelude.{Contains}
use Rattle.nv_outside.specs.Holding.{Holding, Replaced, SameElsewhere}
use Rattle.novac_commands.specs.Answers.{Makes, Refuses, IsCaused, IsDone, IsStopped}
use Rattle.novac_words.specs.Command.{Command, Compile, Run, Exec, Asm, Dis, Lint, Check, Gen, Contexts, Peep, Trace, Counts, SomeFile, outputs_of}
use Rattle.zo_cert.specs.declared.report.Verdict.{Verdict}
use Rattle.zo_cert.specs.declared.report.Verdict.TheVariants as verdict
use Rattle.novac_commands.specs.Compiling.{CompiledMakes, WithoutMakes, CompileMakes, IsCompiled, IfWithout, IsReported}
use Rattle.novac_words.specs.Limits.{source_limit}
use Rattle.novac_words.specs.Lines.{IsUncaused, cannot_write}
use Rattle.novac_commands.specs.Loading.{input, IsRead, AreRead, StopsAt, IsUnread, inputs_of}
use Rattle.novac_commands.specs.Weighing.{AreWeighed, HasWeights}
use Rattle.novac_words.specs.Inputs.{weights_input}
use Rattle.novac_machine.specs.Saving.{File, file, AreSaved, IsCut, IsSameBut}
use Rattle.novac_words.specs.declared.refusal.Refusal.{Refusal}
use Rattle.novac_words.specs.declared.status.Status.{Status}
use Rattle.novac_words.specs.declared.status.Status.TheVariants.{Done, WriteFault, Infeasible, BudgetSpent}
use Rattle.novac_machine.proofs.Saves.{cut-map}

-- the only file
cut-one : (T : Type 0) (f : File) (old new : Holding) (P : List ℕ → Type 0) → IsCut T (f ∷ []) old new P → P f.name × (T → SameElsewhere old new f.name)
cut-one T f old new P (inl h) = h
cut-one T f old new P (inr h) = absurd h.2

pub cut-only : (T : Type 0) (fs : List File) (f : File) (old new : Holding) (P : List ℕ → Type 0) → fs ≡ f ∷ [] → IsCut T fs old new P → P f.name × (T → SameElsewhere old new f.name)
cut-only T fs f old new P is h = cut-one T f old new P (subst (λ (x : List File). IsCut T x old new P) is h)

pub saved-only : (fs : List File) (f : File) (old new : Holding) → fs ≡ f ∷ [] → AreSaved fs old new → Replaced old new f.name f.bytes
saved-only fs f old new is h =
    let one : AreSaved (f ∷ []) old new = subst (λ (x : List File). AreSaved x old new) is h in
    subst (λ (x : Holding). Replaced old x f.name f.bytes) (sym one.2) one.1

-- two files
first-of : (a b : List ℕ) → Contains (a ∷ b ∷ []) a
first-of a b = (0, omega arith, refl)

second-of : (a b : List ℕ) → Contains (a ∷ b ∷ []) b
second-of a b = (1, omega arith, refl)

cut-both : (T : Type 0) (f g : File) (old new : Holding) (P : List ℕ → Type 0) → IsCut T (f ∷ g ∷ []) old new P → SomeFile (f.name ∷ g.name ∷ []) P
cut-both T f g old new P (inl h) = (f.name, first-of f.name g.name, h.0)
cut-both T f g old new P (inr h) = (g.name, second-of f.name g.name, (cut-one T g h.0 new P h.2).0)

-- every name but these two has what it had
different : (name other : List ℕ) (names : List (List ℕ)) → Contains names name → (Contains names other → ⊥) → other ≡ name → ⊥
different name other names there not e = not (subst (Contains names) (sym e) there)

first-same : (a b : List ℕ) (old new : Holding) → SameElsewhere old new a → IsSameBut (a ∷ b ∷ []) old new
first-same a b old new h = λ other not. h other (different a other (a ∷ b ∷ []) (first-of a b) not)

second-same : (a b : List ℕ) (old new : Holding) → SameElsewhere old new b → IsSameBut (a ∷ b ∷ []) old new
second-same a b old new h = λ other not. h other (different b other (a ∷ b ∷ []) (second-of a b) not)

same-twice : (names : List (List ℕ)) (old between new : Holding) → IsSameBut names old between → IsSameBut names between new → IsSameBut names old new
same-twice names old between new h k = λ other not. k other not ∙ h other not

cut-both_elsewhere : (T : Type 0) (f g : File) (old new : Holding) (P : List ℕ → Type 0) → T → IsCut T (f ∷ g ∷ []) old new P → IsSameBut (f.name ∷ g.name ∷ []) old new
cut-both_elsewhere T f g old new P tells (inl h) = first-same f.name g.name old new (h.1 tells)
cut-both_elsewhere T f g old new P tells (inr h) =
    same-twice (f.name ∷ g.name ∷ []) old h.0 new (first-same f.name g.name old h.0 (h.1 tells).elsewhere) (second-same f.name g.name h.0 new ((cut-one T g h.0 new P h.2).1 tells))

-- both were saved
record AreBoth (f g : File) (old new : Holding) : Type 0 where
  pub between : Holding
  pub first : Replaced old between f.name f.bytes
  pub second : Replaced between new g.name g.bytes

both-saved : (f g : File) (old new : Holding) → AreSaved (f ∷ g ∷ []) old new → AreBoth f g old new
both-saved f g old new h = record { between = h.0; first = h.1; second = saved-only (g ∷ []) g h.0 new refl h.2 }

both-elsewhere : (f g : File) (old new : Holding) → AreBoth f g old new → IsSameBut (f.name ∷ g.name ∷ []) old new
both-elsewhere f g old new h = same-twice (f.name ∷ g.name ∷ []) old h.between new (first-same f.name g.name old h.between h.first.elsewhere) (second-same f.name g.name h.between new h.second.elsewhere)

-- what `compile` saves
compiled-cut : (T : Type 0) (text object report : List ℕ) (slots : ℕ) (ws : List ℕ) (budget store : ℕ) (s : Status) (fs : List File) (t : List ℕ) (old new : Holding) (P : List ℕ → Type 0) → CompileMakes text object report slots ws budget store s fs t → IsCut T fs old new P
    → SomeFile (object ∷ report ∷ []) P
compiled-cut T text object report slots ws budget store Done fs t old new P h k = cut-both T (file object h.object) (file report h.report) old new P (subst (λ (x : List File). IsCut T x old new P) h.saves k)
compiled-cut T text object report slots ws budget store Infeasible fs t old new P h k = (report, second-of object report, (cut-only T fs (file report h.0.report) old new P h.0.saves k).0)
compiled-cut T text object report slots ws budget store BudgetSpent fs t old new P h k = (report, second-of object report, (cut-only T fs (file report h.0.report) old new P h.0.saves k).0)
compiled-cut T text object report slots ws budget store _ fs t old new P h k = absurd h

compiled-elsewhere : (text object report : List ℕ) (slots : ℕ) (ws : List ℕ) (budget store : ℕ) (s : Status) (fs : List File) (t : List ℕ) (old new : Holding) → CompileMakes text object report slots ws budget store s fs t → AreSaved fs old new → IsSameBut (object ∷ report ∷ []) old new
compiled-elsewhere text object report slots ws budget store Done fs t old new h k =
    both-elsewhere (file object h.object) (file report h.report) old new (both-saved (file object h.object) (file report h.report) old new (subst (λ (x : List File). AreSaved x old new) h.saves k))
compiled-elsewhere text object report slots ws budget store Infeasible fs t old new h k = second-same object report old new (saved-only fs (file report h.0.report) old new h.0.saves k).elsewhere
compiled-elsewhere text object report slots ws budget store BudgetSpent fs t old new h k = second-same object report old new (saved-only fs (file report h.0.report) old new h.0.saves k).elsewhere
compiled-elsewhere text object report slots ws budget store _ fs t old new h k = absurd h

compiled-cut_elsewhere : (T : Type 0) (text object report : List ℕ) (slots : ℕ) (ws : List ℕ) (budget store : ℕ) (s : Status) (fs : List File) (t : List ℕ) (old new : Holding) (P : List ℕ → Type 0) → T → CompileMakes text object report slots ws budget store s fs t
    → IsCut T fs old new P → IsSameBut (object ∷ report ∷ []) old new
compiled-cut_elsewhere T text object report slots ws budget store Done fs t old new P tells h k = cut-both_elsewhere T (file object h.object) (file report h.report) old new P tells (subst (λ (x : List File). IsCut T x old new P) h.saves k)
compiled-cut_elsewhere T text object report slots ws budget store Infeasible fs t old new P tells h k = second-same object report old new ((cut-only T fs (file report h.0.report) old new P h.0.saves k).1 tells)
compiled-cut_elsewhere T text object report slots ws budget store BudgetSpent fs t old new P tells h k = second-same object report old new ((cut-only T fs (file report h.0.report) old new P h.0.saves k).1 tells)
compiled-cut_elsewhere T text object report slots ws budget store _ fs t old new P tells h k = absurd h

-- a save that failed is of one of the outputs
pub cut-output : (T : Type 0) (c : Command) (bs : List (List ℕ)) (s : Status) (fs : List File) (t : List ℕ) (old new : Holding) (P : List ℕ → Type 0) → Makes c bs s fs t → IsCut T fs old new P → SomeFile (outputs_of c) P
cut-output T (Compile source object report slots budget store weights) (b ∷ g) s fs t old new P h k = compiled-cut T b object report slots h.0 budget store s fs t old new P h.2 k
cut-output T (Run object memory steps) (b ∷ g ∷ []) s fs t old new P h k = absurd (subst (λ (x : List File). IsCut T x old new P) h.0 k)
cut-output T (Exec source memory calls) (b ∷ g ∷ []) s fs t old new P h k = absurd (subst (λ (x : List File). IsCut T x old new P) h.0 k)
cut-output T (Asm input object) (b ∷ []) s fs t old new P h k = (object, (0, omega arith, refl), (cut-only T fs (file object h.object) old new P h.saves k).0)
cut-output T (Dis object) (b ∷ []) s fs t old new P h k = absurd (subst (λ (x : List File). IsCut T x old new P) h.0 k)
cut-output T (Lint object) (b ∷ []) s fs t old new P h k = absurd (subst (λ (x : List File). IsCut T x old new P) h.0 k)
cut-output T (Check report) (b ∷ []) s fs t old new P h k = absurd (subst (λ (x : List File). IsCut T x old new P) h.0 k)
cut-output T (Gen seed size) [] s fs t old new P h k = absurd (subst (λ (x : List File). IsCut T x old new P) h.0 k)
cut-output T (Contexts object memory schedule) (b ∷ g ∷ u ∷ []) s fs t old new P h k = absurd (subst (λ (x : List File). IsCut T x old new P) h.0 k)
cut-output T (Trace source object memory steps calls line) (b ∷ g ∷ u ∷ []) s fs t old new P h k = absurd (subst (λ (x : List File). IsCut T x old new P) h.0 k)
cut-output T (Peep object output) (b ∷ []) s fs t old new P h k = (output, (0, omega arith, refl), (cut-only T fs (file output h.saved) old new P h.saves k).0)
cut-output T (Counts source memory output jumps) (b ∷ g ∷ []) s fs t old new P h k = (output, (0, omega arith, refl), (cut-only T fs (file output h.counts) old new P h.saves k).0)
cut-output T _ _ s fs t old new P h k = absurd h

-- no other file changed
same-but : (old new : Holding) (name : List ℕ) → SameElsewhere old new name → IsSameBut (name ∷ []) old new
same-but old new name h = λ other not. h other (λ e. not (0, omega arith, sym e))

pub same-all : (names : List (List ℕ)) (old new : Holding) → new ≡ old → IsSameBut names old new
same-all names old new e = λ other not. ap (λ (h : Holding). h other) e

pub nothing-saved : (fs : List File) (old new : Holding) → fs ≡ [] → AreSaved fs old new → new ≡ old
nothing-saved fs old new is h = subst (λ (x : List File). AreSaved x old new) is h

pub saved-elsewhere : (c : Command) (bs : List (List ℕ)) (s : Status) (fs : List File) (t : List ℕ) (old new : Holding) → Makes c bs s fs t → AreSaved fs old new → IsSameBut (outputs_of c) old new
saved-elsewhere (Compile source object report slots budget store weights) (b ∷ g) s fs t old new h k = compiled-elsewhere b object report slots h.0 budget store s fs t old new h.2 k
saved-elsewhere (Run object memory steps) (b ∷ g ∷ []) s fs t old new h k = same-all [] old new (nothing-saved fs old new h.0 k)
saved-elsewhere (Exec source memory calls) (b ∷ g ∷ []) s fs t old new h k = same-all [] old new (nothing-saved fs old new h.0 k)
saved-elsewhere (Asm input object) (b ∷ []) s fs t old new h k = same-but old new object (saved-only fs (file object h.object) old new h.saves k).elsewhere
saved-elsewhere (Dis object) (b ∷ []) s fs t old new h k = same-all [] old new (nothing-saved fs old new h.0 k)
saved-elsewhere (Lint object) (b ∷ []) s fs t old new h k = same-all [] old new (nothing-saved fs old new h.0 k)
saved-elsewhere (Check report) (b ∷ []) s fs t old new h k = same-all [] old new (nothing-saved fs old new h.0 k)
saved-elsewhere (Gen seed size) [] s fs t old new h k = same-all [] old new (nothing-saved fs old new h.0 k)
saved-elsewhere (Contexts object memory schedule) (b ∷ g ∷ u ∷ []) s fs t old new h k = same-all [] old new (nothing-saved fs old new h.0 k)
saved-elsewhere (Trace source object memory steps calls line) (b ∷ g ∷ u ∷ []) s fs t old new h k = same-all [] old new (nothing-saved fs old new h.0 k)
saved-elsewhere (Peep object output) (b ∷ []) s fs t old new h k = same-but old new output (saved-only fs (file output h.saved) old new h.saves k).elsewhere
saved-elsewhere (Counts source memory output jumps) (b ∷ g ∷ []) s fs t old new h k = same-but old new output (saved-only fs (file output h.counts) old new h.saves k).elsewhere
saved-elsewhere _ _ s fs t old new h k = absurd h

pub cut-elsewhere : (T : Type 0) (c : Command) (bs : List (List ℕ)) (s : Status) (fs : List File) (t : List ℕ) (old new : Holding) (P : List ℕ → Type 0) → T → Makes c bs s fs t → IsCut T fs old new P → IsSameBut (outputs_of c) old new
cut-elsewhere T (Compile source object report slots budget store weights) (b ∷ g) s fs t old new P tells h k = compiled-cut_elsewhere T b object report slots h.0 budget store s fs t old new P tells h.2 k
cut-elsewhere T (Run object memory steps) (b ∷ g ∷ []) s fs t old new P tells h k = absurd (subst (λ (x : List File). IsCut T x old new P) h.0 k)
cut-elsewhere T (Exec source memory calls) (b ∷ g ∷ []) s fs t old new P tells h k = absurd (subst (λ (x : List File). IsCut T x old new P) h.0 k)
cut-elsewhere T (Asm input object) (b ∷ []) s fs t old new P tells h k = same-but old new object ((cut-only T fs (file object h.object) old new P h.saves k).1 tells)
cut-elsewhere T (Dis object) (b ∷ []) s fs t old new P tells h k = absurd (subst (λ (x : List File). IsCut T x old new P) h.0 k)
cut-elsewhere T (Lint object) (b ∷ []) s fs t old new P tells h k = absurd (subst (λ (x : List File). IsCut T x old new P) h.0 k)
cut-elsewhere T (Check report) (b ∷ []) s fs t old new P tells h k = absurd (subst (λ (x : List File). IsCut T x old new P) h.0 k)
cut-elsewhere T (Gen seed size) [] s fs t old new P tells h k = absurd (subst (λ (x : List File). IsCut T x old new P) h.0 k)
cut-elsewhere T (Contexts object memory schedule) (b ∷ g ∷ u ∷ []) s fs t old new P tells h k = absurd (subst (λ (x : List File). IsCut T x old new P) h.0 k)
cut-elsewhere T (Trace source object memory steps calls line) (b ∷ g ∷ u ∷ []) s fs t old new P tells h k = absurd (subst (λ (x : List File). IsCut T x old new P) h.0 k)
cut-elsewhere T (Peep object output) (b ∷ []) s fs t old new P tells h k = same-but old new output ((cut-only T fs (file output h.saved) old new P h.saves k).1 tells)
cut-elsewhere T (Counts source memory output jumps) (b ∷ g ∷ []) s fs t old new P tells h k = same-but old new output ((cut-only T fs (file output h.counts) old new P h.saves k).1 tells)
cut-elsewhere T _ _ s fs t old new P tells h k = absurd h

-- the weights are those by the file that is named
named-weights : (T : Type 0) (old : Holding) (weights : Option (List ℕ)) (g : List (List ℕ)) (ws : List ℕ) → T → AreRead T old (weights_input weights) g → AreWeighed g ws → HasWeights old weights ws
named-weights T old None [] ws tells read h = h
named-weights T old None (t ∷ g) ws tells read h = absurd read
named-weights T old (Some name) [] ws tells read h = absurd read
named-weights T old (Some name) (t ∷ []) ws tells read h = (t, read.0.here tells, read.0.short, h)
named-weights T old (Some name) (t ∷ u ∷ g) ws tells read h = absurd h

-- what `compile` saved is compiled
compiled-with : (T : Type 0) (old new : Holding) (source object report : List ℕ) (slots : ℕ) (ws : List ℕ) (budget store : ℕ) (weights : Option (List ℕ)) (b : List ℕ) (fs : List File) (t : List ℕ)
    → T → (object ≡ report → ⊥) → IsRead T old (input source source_limit) b → HasWeights old weights ws → CompiledMakes b object report slots ws budget store fs t → AreSaved fs old new
    → IsCompiled old new source object report slots budget store weights t
compiled-with T old new source object report slots ws budget store weights b fs t tells apart read weighed h saved =
    let both : AreBoth (file object h.object) (file report h.report) old new = both-saved (file object h.object) (file report h.report) old new (subst (λ (x : List File). AreSaved x old new) h.saves saved) in
    record {
      text = b;
      held = read.here tells;
      short = read.short;
      ws = ws;
      weighed = weighed;
      object = h.object;
      saved = both.second.elsewhere object apart ∙ both.first.here;
      report = h.report;
      reported = both.second.here;
      elsewhere = both-elsewhere (file object h.object) (file report h.report) old new both;
      instructions = h.instructions;
      r = h.r;
      compiled = h.compiled;
      told = h.told;
    }

compiled-of : (T : Type 0) (old new : Holding) (source object report : List ℕ) (slots budget store : ℕ) (weights : Option (List ℕ)) (bs : List (List ℕ)) (s : Status) (fs : List File) (t : List ℕ)
    → T → s ≡ Done → (object ≡ report → ⊥) → AreRead T old (inputs_of (Compile source object report slots budget store weights)) bs → Makes (Compile source object report slots budget store weights) bs s fs t → (T → AreSaved fs old new)
    → IsCompiled old new source object report slots budget store weights t
compiled-of T old new source object report slots budget store weights (b ∷ g) s fs t tells done apart read h saved =
    compiled-with T old new source object report slots h.0 budget store weights b fs t tells apart read.0 (named-weights T old weights g h.0 tells read.1 h.1) (subst (λ (x : Status). CompileMakes b object report slots h.0 budget store x fs t) done h.2) (saved tells)
compiled-of T old new source object report slots budget store weights [] s fs t tells done apart read h saved = absurd h

pub done-compiled : (T : Type 0) (old new : Holding) (source object report : List ℕ) (slots budget store : ℕ) (weights : Option (List ℕ)) (s : Status) (t : List ℕ) → T → s ≡ Done → (object ≡ report → ⊥) → IsDone T old new (Compile source object report slots budget store weights) s t
    → IsCompiled old new source object report slots budget store weights t
done-compiled T old new source object report slots budget store weights s t tells done apart h = compiled-of T old new source object report slots budget store weights h.contents s h.files t tells done apart h.read h.makes h.saved

-- what it saved without banks
reported-with : (T : Type 0) (old new : Holding) (source report : List ℕ) (slots : ℕ) (ws : List ℕ) (budget : ℕ) (weights : Option (List ℕ)) (v : Verdict) (b : List ℕ) (fs : List File) → T → IsRead T old (input source source_limit) b → HasWeights old weights ws
    → WithoutMakes b report slots ws budget v fs → AreSaved fs old new → IsReported old new source report slots budget weights v
reported-with T old new source report slots ws budget weights v b fs tells read weighed h saved = record {
  text = b;
  held = read.here tells;
  ws = ws;
  weighed = weighed;
  program = h.program;
  is_source = h.is_source;
  report = h.report;
  saved = saved-only fs (file report h.report) old new h.saves saved;
  r = h.r;
  reports = h.reports;
  without = h.without;
}

reported-of : (T : Type 0) (old new : Holding) (source object report : List ℕ) (slots budget store : ℕ) (weights : Option (List ℕ)) (bs : List (List ℕ)) (s : Status) (fs : List File) (t : List ℕ)
    → T → AreRead T old (inputs_of (Compile source object report slots budget store weights)) bs → Makes (Compile source object report slots budget store weights) bs s fs t → (T → AreSaved fs old new)
    → IfWithout s (λ v. IsReported old new source report slots budget weights v)
reported-of T old new source object report slots budget store weights (b ∷ g) Infeasible fs t tells read h saved = reported-with T old new source report slots h.0 budget weights verdict.Infeasible b fs tells read.0 (named-weights T old weights g h.0 tells read.1 h.1) h.2.0 (saved tells)
reported-of T old new source object report slots budget store weights (b ∷ g) BudgetSpent fs t tells read h saved = reported-with T old new source report slots h.0 budget weights verdict.Spent b fs tells read.0 (named-weights T old weights g h.0 tells read.1 h.1) h.2.0 (saved tells)
reported-of T old new source object report slots budget store weights (b ∷ g) _ fs t tells read h saved = tt
reported-of T old new source object report slots budget store weights [] s fs t tells read h saved = absurd h

pub done-reported : (T : Type 0) (old new : Holding) (source object report : List ℕ) (slots budget store : ℕ) (weights : Option (List ℕ)) (s : Status) (t : List ℕ) → T → IsDone T old new (Compile source object report slots budget store weights) s t
    → IfWithout s (λ v. IsReported old new source report slots budget weights v)
done-reported T old new source object report slots budget store weights s t tells h = reported-of T old new source object report slots budget store weights h.contents s h.files t tells h.read h.makes h.saved

-- what was made is saved, or a save failed
pub saves-end : (T : Type 0) (old mid new : Holding) (Rises Later : List ℕ → Type 0) (c : Command) (bs : List (List ℕ)) (made s : Status) (fs : List File) (line t : List ℕ)
    → mid ≡ old → ((name : List ℕ) → Later name → Rises name) → AreRead T old (inputs_of c) bs → Makes c bs made fs line
    → ((s ≡ made) × (t ≡ line) × (T → AreSaved fs mid new)) ⊎ ((s ≡ WriteFault) × IsCut T fs mid new (λ name. Later name × (t ≡ cannot_write name)))
    → IsDone T old new c s t ⊎ ((s ≡ WriteFault) × IsStopped T old new Rises c t)
saves-end T old mid new Rises Later c bs made s fs line t kept later read makes (inl h) = inl (record {
  contents = bs;
  files = fs;
  read = read;
  makes = subst (λ (x : Status). Makes c bs x fs t) (sym h.0) (subst (λ (x : List ℕ). Makes c bs made fs x) (sym h.1) makes);
  saved = λ tells. subst (λ (x : Holding). AreSaved fs x new) kept (h.2 tells);
})
saves-end T old mid new Rises Later c bs made s fs line t kept later read makes (inr h) =
    let cut : IsCut T fs old new (λ name. Later name × (t ≡ cannot_write name)) = subst (λ (x : Holding). IsCut T fs x new (λ name. Later name × (t ≡ cannot_write name))) kept h.1 in
    inr (
      h.0,
      record {
        contents = bs;
        made = made;
        files = fs;
        line = line;
        read = read;
        makes = makes;
        cut = cut-map T fs old new (λ name. Later name × (t ≡ cannot_write name)) (λ name. Rises name × (t ≡ cannot_write name)) (λ name both. (later name both.0, both.1)) cut;
      },
    )

-- why a command is refused, passed on
pub pass-unread : (T : Type 0) (held : Holding) (R : List ℕ → Type 0) (c : Command) (e : Refusal) → IsUncaused e ⊎ StopsAt T held (inputs_of c) (IsUnread T held R e) → IsUncaused e ⊎ IsCaused T held R c e
pass-unread T held R c e (inl u) = inl u
pass-unread T held R c e (inr h) = inr (inl h)

pub pass-refused : (T : Type 0) (held : Holding) (R : List ℕ → Type 0) (c : Command) (bs : List (List ℕ)) (e : Refusal) → AreRead T held (inputs_of c) bs → IsUncaused e ⊎ Refuses c bs e → IsUncaused e ⊎ IsCaused T held R c e
pass-refused T held R c bs e read (inl u) = inl u
pass-refused T held R c bs e read (inr h) = inr (inr (bs, read, h))
