-- What the command `trace` does, and why it refuses.
use Rattle.std.specs.Prelude.{◌≡◌, ◌≢◌, ◌⊎◌, ℕ, List, Option, Some, length, take}
use Rattle.nv_base.specs.Memories.{Memories}
use Rattle.nv_base.specs.Meanings.{source_writes}
use Rattle.nv_base.specs.declared.outcome.Write.{Write}
use Rattle.nv_ast.specs.Sizes.{main_words}
use Rattle.nv_ast.specs.Tree.{ProgramTree}
use Rattle.nv_meaning_values.specs.Running.{Made, plain}
use Rattle.nv_meaning_values.specs.Notes.{source_made}
use Rattle.nv_meaning.specs.Meaning.{source, traced}
use Rattle.nv_memtext.specs.MemoryText.{Gives}
use Rattle.nv_trace.specs.TraceText.{shown, trace_text}
use Rattle.nv_trace.specs.Unlike.{IsFirstUnlike, AgreeAsFar}
use Rattle.uc_isa.specs.Agrees.{Agrees}
use Rattle.uc_isa.specs.Code.{CodeView}
use Rattle.uc_isa.specs.Engine.{engine}
use Rattle.uc_isa.specs.Lawful.{IsLawful}
use Rattle.uc_object.specs.Object.{IsObject, code_of}
use Rattle.uc_object.specs.declared.object.Object.{Object}
use Rattle.nv_outside.specs.Holding.{Holding}
use Rattle.nova_compile.specs.Sources.{IsTypedSource}
use Rattle.novac_machine.specs.Machine.{HasCode, IsMemoryRefusedFor, LintRefuses, spill_base}
use Rattle.nova_compile.specs.Programs.{HasTyped}
use Rattle.novac_commands.specs.Reading.{SourceRefuses}
use Rattle.novac_words.specs.declared.refusal.Refusal.{Refusal}
use Rattle.novac_words.specs.declared.refusal.Refusal.TheVariants.{TraceParams, TraceWrite}
use Rattle.novac_words.specs.declared.status.Status.{Status}
use Rattle.novac_words.specs.declared.status.Status.TheVariants.{Done}

-- how many writes are kept on each side
abbrev pub kept_writes : ℕ
kept_writes = 1024

-- the first writes of a program with so many calls, each with where it is made
abbrev pub made_writes : ProgramTree → ℕ → List ℕ → Memories → List Made
made_writes program calls arguments packet = take kept_writes (source_made (traced program arguments packet calls).writes)

-- the first writes of so many steps of the engine
abbrev pub code_writes : CodeView → ℕ → List ℕ → Memories → List Write
code_writes c steps arguments packet = take kept_writes (source_writes (engine c arguments spill_base packet steps).writes)

-- ---- what it does

-- The memory text gives what both start with. The code has as many parameters as the source's main has words, and the writes of both
-- are the same as far as both go: the text is that of these writes of the source.
pub record IsCompared (program : ProgramTree) (c : CodeView) (text memory : List ℕ) (steps calls : ℕ) (line : Option ℕ) (status : Status) (out : List ℕ) : Type 0 where
  pub packet : Memories
  pub arguments : List ℕ
  pub given : Gives (main_words program) memory packet arguments
  pub params : c.params ≡ main_words program
  pub agree : AgreeAsFar (plain (made_writes program calls arguments packet)) (code_writes c steps arguments packet)
  pub done : status ≡ Done
  pub prints : out ≡ trace_text text (shown text line (take (length (code_writes c steps arguments packet)) (made_writes program calls arguments packet)))

-- the text is that of a typed program, the bytes are the object of lawful code, and the two are compared
pub record IsTraced (text bytes memory : List ℕ) (steps calls : ℕ) (line : Option ℕ) (status : Status) (out : List ℕ) : Type 0 where
  pub program : ProgramTree
  pub is_source : IsTypedSource text program
  pub o : Object
  pub object : IsObject bytes o
  pub lawful : IsLawful (code_of o).list
  pub compared : IsCompared program (code_of o) text memory steps calls line status out

-- ---- refusals

-- the code has other parameters than the source's main has words, or else a write differs
abbrev pub IsOtherFor : ProgramTree → CodeView → ℕ → ℕ → List ℕ → Memories → Refusal → Type 0
IsOtherFor program c steps calls arguments packet (TraceParams p q) = (p ≡ c.params) × (q ≡ main_words program) × (p ≢ q)
IsOtherFor program c steps calls arguments packet (TraceWrite i) =
    (c.params ≡ main_words program) × IsFirstUnlike i (plain (made_writes program calls arguments packet)) (code_writes c steps arguments packet)
IsOtherFor program c steps calls arguments packet _ = ⊥

-- the source and then the object and then the memory text are refused as by the commands that read these, or else the code differs
-- from the source
abbrev pub CodeRefuses : ProgramTree → List ℕ → ℕ → ℕ → CodeView → Refusal → Type 0
CodeRefuses program memory steps calls c e =
    IsMemoryRefusedFor (main_words program) memory e
    ⊎ ((packet : Memories) × (arguments : List ℕ) × Gives (main_words program) memory packet arguments × IsOtherFor program c steps calls arguments packet e)

abbrev pub ObjectRefuses : ProgramTree → List ℕ → List ℕ → ℕ → ℕ → Refusal → Type 0
ObjectRefuses program bytes memory steps calls e =
    LintRefuses bytes e ⊎ HasCode bytes (λ c. IsLawful c.list × CodeRefuses program memory steps calls c e)

abbrev pub TraceRefuses : List ℕ → List ℕ → List ℕ → ℕ → ℕ → Refusal → Type 0
TraceRefuses text bytes memory steps calls e = SourceRefuses text e ⊎ HasTyped text (λ program. ObjectRefuses program bytes memory steps calls e)

-- ---- code that agrees

-- these files hold a source and an object of code that does what the source says
abbrev pub HoldAgreeing : Holding → List ℕ → List ℕ → Type 0
HoldAgreeing held source_name object_name =
    (text : List ℕ) × (held source_name ≡ Some text) × (bytes : List ℕ) × (held object_name ≡ Some bytes)
    × HasTyped text (λ program. HasCode bytes (λ c. Agrees (main_words program) (source program) c))
