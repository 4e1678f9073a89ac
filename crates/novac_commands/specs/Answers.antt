-- The answers of the program.
use Rattle.std.specs.Prelude.{◌≡◌, ◌⊎◌, ◌++◌, ℕ, List, [], ◌∷◌, ⊤}
use Rattle.nv_outside.specs.Holding.{Holding, AppendsFront}
use Rattle.novac_machine.specs.Assembly.{AsmMakes, AsmRefuses, HasAssembly, IsListed}
use Rattle.novac_words.specs.Command.{Command, Compile, Run, Exec, Asm, Dis, Lint, Check, Gen, Contexts, Peep, Trace, Counts}
use Rattle.novac_commands.specs.Checking.{CheckRefuses, IsChecked}
use Rattle.novac_commands.specs.Entries.{CountsMake}
use Rattle.novac_commands.specs.Executing.{ExecRefuses, IsExecuted, HasJob}
use Rattle.novac_commands.specs.Generating.{IsGenerated, GenRefuses}
use Rattle.novac_commands.specs.Compiling.{WeighedMakes, WeighedRefuses, IsEndOf}
use Rattle.novac_words.specs.Lines.{IsUncaused, refusal_status, refusal_text, cannot_write}
use Rattle.novac_commands.specs.Weighing.{AreWeighed, TextsRefuse}
use Rattle.novac_commands.specs.Loading.{AreRead, StopsAt, IsUnread, inputs_of}
use Rattle.novac_machine.specs.Machine.{HasCode, IsBadObjectFor, LintRefuses, IsLinted, RunRefuses, IsRun}
use Rattle.nv_base.specs.declared.outcome.Outcome.{Outcome}
use Rattle.novac_words.specs.Status.{outcome_status}
use Rattle.uc_isa.specs.Lawful.{IsLawful}
use Rattle.nova_compile.specs.Programs.{HasTyped}
use Rattle.novac_machine.specs.Peeping.{PeepMakes}
use Rattle.novac_machine.specs.Saving.{File, AreSaved, IsCut}
use Rattle.novac_machine.specs.Scheduled.{ContextsRefuse, IsScheduled}
use Rattle.novac_commands.specs.Tracing.{IsTraced, TraceRefuses}
use Rattle.novac_words.specs.declared.refusal.Refusal.{Refusal}
use Rattle.novac_words.specs.declared.status.Status.{Status}
use Rattle.novac_words.specs.declared.status.Status.TheVariants.{Done, ReadFault, WriteFault, NoMemory}

-- what a command makes of the contents of its inputs: a status, the files that it saves, in this order, and a text
abbrev pub Makes : Command → List (List ℕ) → Status → List File → List ℕ → Type 0
Makes (Compile source object report slots budget store weights) (bytes ∷ given) status files text = WeighedMakes bytes given object report slots budget store status files text
Makes (Run object memory steps) (bytes ∷ given ∷ []) status files text = (files ≡ []) × IsRun bytes given steps status text
Makes (Exec source memory calls) (bytes ∷ given ∷ []) status files text = (files ≡ []) × IsExecuted bytes given calls status text
Makes (Asm input object) (bytes ∷ []) status files text = AsmMakes bytes object status files text
Makes (Dis object) (bytes ∷ []) status files text = (files ≡ []) × IsListed bytes status text
Makes (Lint object) (bytes ∷ []) status files text = (files ≡ []) × IsLinted bytes status text
Makes (Check report) (bytes ∷ []) status files text = (files ≡ []) × IsChecked bytes status text
Makes (Gen seed size) [] status files text = (files ≡ []) × (status ≡ Done) × IsGenerated seed size text
Makes (Contexts object memory schedule) (bytes ∷ given ∷ turns ∷ []) status files text = (files ≡ []) × IsScheduled bytes given turns status text
Makes (Trace source object memory steps calls line) (source_text ∷ bytes ∷ given ∷ []) status files text = (files ≡ []) × IsTraced source_text bytes given steps calls line status text
Makes (Peep object output) (bytes ∷ []) status files text = PeepMakes bytes output status files text
Makes (Counts source memory output jumps) (bytes ∷ given ∷ []) status files text = CountsMake bytes given output jumps status files text
Makes _ _ status files text = ⊥

-- what a command makes without a file, of contents that decide it
abbrev pub Prints : Command → List (List ℕ) → Status → List ℕ → Type 0
Prints (Run object memory steps) (bytes ∷ given ∷ []) status text = IsRun bytes given steps status text
Prints (Exec source memory calls) (bytes ∷ given ∷ []) status text = IsExecuted bytes given calls status text
Prints (Dis object) (bytes ∷ []) status text = IsListed bytes status text
Prints (Lint object) (bytes ∷ []) status text = IsLinted bytes status text
Prints (Check report) (bytes ∷ []) status text = IsChecked bytes status text
Prints (Contexts object memory schedule) (bytes ∷ given ∷ turns ∷ []) status text = IsScheduled bytes given turns status text
Prints (Trace source object memory steps calls line) (source_text ∷ bytes ∷ given ∷ []) status text = IsTraced source_text bytes given steps calls line status text
Prints _ _ status text = ⊥

-- the contents of the inputs of a command that saves a file are such as it can make it of: a program, code, weights, memories
abbrev pub CanMake : Command → List (List ℕ) → Type 0
CanMake (Compile source object report slots budget store weights) (bytes ∷ given) = HasTyped bytes (λ _. (ws : List ℕ) × AreWeighed given ws)
CanMake (Asm input object) (bytes ∷ []) = HasAssembly bytes
CanMake (Peep object output) (bytes ∷ []) = HasCode bytes (λ c. IsLawful c.list)
CanMake (Counts source memory output jumps) (bytes ∷ given ∷ []) = HasJob bytes given
CanMake _ _ = ⊥

-- how it ends then
abbrev pub CanEnd : Command → List (List ℕ) → Status → Type 0
CanEnd (Compile source object report slots budget store weights) (bytes ∷ given) status = HasTyped bytes (λ program. IsEndOf program slots store status)
CanEnd (Asm input object) (bytes ∷ []) status = status ≡ Done
CanEnd (Peep object output) (bytes ∷ []) status = status ≡ Done
CanEnd (Counts source memory output jumps) (bytes ∷ given ∷ []) status = (o : Outcome) × (status ≡ outcome_status o)
CanEnd _ _ status = ⊥

-- the contents of its inputs are why a command is refused
abbrev pub Refuses : Command → List (List ℕ) → Refusal → Type 0
Refuses (Compile source object report slots budget store weights) (bytes ∷ given) e = WeighedRefuses bytes given slots budget store e
Refuses (Run object memory steps) (bytes ∷ given ∷ []) e = RunRefuses bytes given e
Refuses (Exec source memory calls) (bytes ∷ given ∷ []) e = ExecRefuses bytes given e
Refuses (Asm input object) (bytes ∷ []) e = AsmRefuses bytes e
Refuses (Dis object) (bytes ∷ []) e = IsBadObjectFor bytes e
Refuses (Lint object) (bytes ∷ []) e = LintRefuses bytes e
Refuses (Check report) (bytes ∷ []) e = CheckRefuses bytes e
Refuses (Gen seed size) [] e = GenRefuses seed size e
Refuses (Contexts object memory schedule) (bytes ∷ given ∷ turns ∷ []) e = ContextsRefuse bytes given turns e
Refuses (Trace source object memory steps calls line) (text ∷ bytes ∷ given ∷ []) e = TraceRefuses text bytes given steps calls e
Refuses (Peep object output) (bytes ∷ []) e = LintRefuses bytes e
Refuses (Counts source memory output jumps) (bytes ∷ given ∷ []) e = ExecRefuses bytes given e
Refuses _ _ e = ⊥

-- the same where the contents alone decide it: why a typed program isn't compiled its form and its code decide
abbrev pub MustRefuse : Command → List (List ℕ) → Refusal → Type 0
MustRefuse (Compile source object report slots budget store weights) (bytes ∷ given) e = TextsRefuse bytes given e
MustRefuse (Run object memory steps) (bytes ∷ given ∷ []) e = RunRefuses bytes given e
MustRefuse (Exec source memory calls) (bytes ∷ given ∷ []) e = ExecRefuses bytes given e
MustRefuse (Asm input object) (bytes ∷ []) e = AsmRefuses bytes e
MustRefuse (Dis object) (bytes ∷ []) e = IsBadObjectFor bytes e
MustRefuse (Lint object) (bytes ∷ []) e = LintRefuses bytes e
MustRefuse (Check report) (bytes ∷ []) e = CheckRefuses bytes e
MustRefuse (Contexts object memory schedule) (bytes ∷ given ∷ turns ∷ []) e = ContextsRefuse bytes given turns e
MustRefuse (Trace source object memory steps calls line) (text ∷ bytes ∷ given ∷ []) e = TraceRefuses text bytes given steps calls e
MustRefuse (Peep object output) (bytes ∷ []) e = LintRefuses bytes e
MustRefuse (Counts source memory output jumps) (bytes ∷ given ∷ []) e = ExecRefuses bytes given e
MustRefuse _ _ e = ⊥

-- an input isn't read, while those before it are, or all are, and their contents are why
abbrev pub IsCaused : Type 0 → Holding → (List ℕ → Type 0) → Command → Refusal → Type 0
IsCaused Tells held Rises command e =
    StopsAt Tells held (inputs_of command) (IsUnread Tells held Rises e)
    ⊎ ((contents : List (List ℕ)) × AreRead Tells held (inputs_of command) contents × Refuses command contents e)

-- a command made this of some contents of its inputs, and saved its files; the contents are those that are held, where
-- the store tells
pub record IsDone (Tells : Type 0) (old new : Holding) (command : Command) (status : Status) (text : List ℕ) : Type 0 where
  pub contents : List (List ℕ)
  pub files : List File
  pub read : AreRead Tells old (inputs_of command) contents
  pub makes : Makes command contents status files text
  pub saved : Tells → AreSaved files old new

-- a command made something, as above, and the save of one of its files failed, which the text says
pub record IsStopped (Tells : Type 0) (old new : Holding) (Rises : List ℕ → Type 0) (command : Command) (text : List ℕ) : Type 0 where
  pub contents : List (List ℕ)
  pub made : Status
  pub files : List File
  pub line : List ℕ
  pub read : AreRead Tells old (inputs_of command) contents
  pub makes : Makes command contents made files line
  pub cut : IsCut Tells files old new (λ name. Rises name × (text ≡ cannot_write name))

-- a command is refused with this status and text, and no file changed
pub record IsRefused (Tells : Type 0) (old new : Holding) (Rises : List ℕ → Type 0) (command : Command) (status : Status) (text : List ℕ) : Type 0 where
  pub why : Refusal
  pub cause : IsUncaused why ⊎ IsCaused Tells old Rises command why
  pub kept : new ≡ old
  pub status_is : status ≡ refusal_status why
  pub text_is : text ≡ refusal_text why

-- a command ends with this status and text, and no save failed
abbrev pub Ends : Type 0 → Holding → Holding → (List ℕ → Type 0) → Command → Status → List ℕ → Type 0
Ends Tells old new Rises command status text =
    IsDone Tells old new command status text ⊎ IsRefused Tells old new Rises command status text

-- the command has this status, and its text was printed
abbrev pub IsPrinted : Type 0 → Holding → Holding → (List ℕ → Type 0) → Command → Status → Type 0 → List ℕ → List ℕ → Type 0
IsPrinted Tells old new Rises command status SinkTells before after =
    (text : List ℕ) × Ends Tells old new Rises command status text × (SinkTells → after ≡ before ++ text)

-- a save failed, and a prefix of the line that says so was printed, or else the print failed, after all saves
pub record IsBegun (Tells : Type 0) (old new : Holding) (LoadRises SaveRises : List ℕ → Type 0) (command : Command) (PutFailed SinkTells : Type 0) (before after : List ℕ) : Type 0 where
  pub text : List ℕ
  pub cause : IsStopped Tells old new SaveRises command text ⊎ (PutFailed × ((status : Status) × Ends Tells old new LoadRises command status text))
  pub front : SinkTells → AppendsFront before after text

-- the files hold what a command makes this of, without a file that it saves
abbrev pub Shows : Command → Holding → Status → List ℕ → Type 0
Shows command held status text = (contents : List (List ℕ)) × AreRead ⊤ held (inputs_of command) contents × Prints command contents status text

-- they hold why it is refused
abbrev pub IsRefusable : Command → Holding → Refusal → Type 0
IsRefusable command held e =
    StopsAt ⊤ held (inputs_of command) (IsUnread ⊤ held (λ _. ⊥) e)
    ⊎ ((contents : List (List ℕ)) × AreRead ⊤ held (inputs_of command) contents × MustRefuse command contents e)

-- a fault of the files or the sink, or memory exhaustion
abbrev pub IsFree : Status → Type 0
IsFree status = (status ≡ ReadFault) ⊎ (status ≡ WriteFault) ⊎ (status ≡ NoMemory)

-- the status is this one, and this text was printed, unless a file, the sink or memory failed
abbrev pub IsOnly : Status → Status → Type 0 → List ℕ → List ℕ → List ℕ → Type 0
IsOnly found status Tells before after text = IsFree found ⊎ ((found ≡ status) × (Tells → after ≡ before ++ text))
