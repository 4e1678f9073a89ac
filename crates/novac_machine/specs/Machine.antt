-- What the commands of the machine's side do, and why they refuse.
use Rattle.std.specs.Prelude.{◌≡◌, ◌⊎◌, ℕ, List, Option, None, Some, codes, length}
use Rattle.nv_base.specs.Log.{empty_log, noted_all}
use Rattle.nv_base.specs.Meanings.{FullOutcome, source_writes}
use Rattle.nv_base.specs.Memories.{Memories, source_scratch}
use Rattle.nv_memtext.specs.MemoryText.{Gives, IsBad, IsTooLarge}
use Rattle.nv_base.specs.declared.outcome.Outcome.{Outcome}
use Rattle.nv_base.specs.declared.outcome.Outcome.TheVariants.{Raised}
use Rattle.nv_memtext.specs.OutcomeText.{outcome_text, named_text}
use Rattle.uc_isa.specs.Code.{CodeView}
use Rattle.uc_isa.specs.Engine.{engine}
use Rattle.uc_isa.specs.Lawful.{IsLawful, IsFirstBroken}
use Rattle.uc_isa.specs.declared.instruction.Instr.{Instr}
use Rattle.uc_object.specs.Object.{IsObject, IsBadPlace, code_of, exception_of}
use Rattle.uc_object.specs.declared.object.Object.{Object}
use Rattle.novac_words.specs.Lines.{counted}
use Rattle.novac_words.specs.Status.{outcome_status}
use Rattle.novac_words.specs.declared.status.Status.{Status}
use Rattle.novac_words.specs.declared.status.Status.TheVariants.{Done}
use Rattle.novac_words.specs.declared.refusal.Refusal.{Refusal}
use Rattle.novac_words.specs.declared.refusal.Refusal.TheVariants.{TooLarge, BadObject, BadMemoryText, Unlawful}

-- the bytes aren't an object, and the refusal has the place where they go wrong
abbrev pub IsBadObjectFor : List ℕ → Refusal → Type 0
IsBadObjectFor bytes (BadObject at) = IsBadPlace bytes at
IsBadObjectFor bytes _ = ⊥

-- the code isn't lawful, and the refusal has the first place and its least rule
abbrev pub IsUnlawfulFor : List Instr → Refusal → Type 0
IsUnlawfulFor code (Unlawful place rule) = IsFirstBroken code place rule
IsUnlawfulFor code _ = ⊥

-- the bytes are an object of whose code this holds
abbrev pub HasCode : List ℕ → (CodeView → Type 0) → Type 0
HasCode bytes P = (o : Object) × IsObject bytes o × P (code_of o)

-- the bytes aren't an object, or are one whose code isn't lawful
abbrev pub LintRefuses : List ℕ → Refusal → Type 0
LintRefuses bytes e = IsBadObjectFor bytes e ⊎ HasCode bytes (λ c. IsUnlawfulFor c.list e)

-- the bytes are an object of lawful code, whose length is told
pub record IsLinted (bytes : List ℕ) (status : Status) (text : List ℕ) : Type 0 where
  pub o : Object
  pub object : IsObject bytes o
  pub lawful : IsLawful (code_of o).list
  pub done : status ≡ Done
  pub line : text ≡ counted (codes "lawful ") (length (code_of o).list)

-- the first scratch word that code may use for itself, where `run` starts it, and how many writes are shown
abbrev pub spill_base : ℕ
spill_base = source_scratch

abbrev pub shown_writes : ℕ
shown_writes = 64

-- what `exec` prints of a full outcome
abbrev pub full_text : FullOutcome → List ℕ
full_text f = outcome_text f.outcome f.packet (noted_all (empty_log shown_writes) (source_writes f.writes))

-- the line and the name that an object has for the exception of an outcome
abbrev pub raised_name : Object → Outcome → Option (ℕ × List ℕ)
raised_name o (Raised k ws) = exception_of o k
raised_name o _ = None

-- the text of a full outcome, with the name and the line of its exception where they are known
abbrev pub printed_text : Option (ℕ × List ℕ) → FullOutcome → List ℕ
printed_text None f = full_text f
printed_text (Some exception) f = named_text f.outcome exception f.packet (noted_all (empty_log shown_writes) (source_writes f.writes))

-- what `run` prints of a full outcome of an object
abbrev pub run_text : Object → FullOutcome → List ℕ
run_text o f = printed_text (raised_name o f.outcome) f

-- the memory text isn't of its form for so many parameters, or has a size that is too large
abbrev pub IsMemoryRefusedFor : ℕ → List ℕ → Refusal → Type 0
IsMemoryRefusedFor params text (BadMemoryText n) = IsBad params text n
IsMemoryRefusedFor params text (TooLarge n) = IsTooLarge text n
IsMemoryRefusedFor params text _ = ⊥

-- the bytes aren't an object of lawful code, or else the memory text is refused
abbrev pub RunRefuses : List ℕ → List ℕ → Refusal → Type 0
RunRefuses bytes text e =
    LintRefuses bytes e ⊎ HasCode bytes (λ c. IsLawful c.list × IsMemoryRefusedFor c.params text e)

-- the status and the text are those of N steps of the engine, on the object's code and the memory text
pub record IsRun (bytes memory : List ℕ) (steps : ℕ) (status : Status) (text : List ℕ) : Type 0 where
  pub o : Object
  pub object : IsObject bytes o
  pub lawful : IsLawful (code_of o).list
  pub packet : Memories
  pub arguments : List ℕ
  pub given : Gives (code_of o).params memory packet arguments
  pub ends : status ≡ outcome_status (engine (code_of o) arguments spill_base packet steps).outcome
  pub prints : text ≡ run_text o (engine (code_of o) arguments spill_base packet steps)
