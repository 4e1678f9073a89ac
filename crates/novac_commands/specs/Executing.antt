-- What the command `exec` does, and why it refuses.
use Rattle.std.specs.Prelude.{◌≡◌, ◌⊎◌, ℕ, List}
use Rattle.nv_base.specs.Memories.{Memories}
use Rattle.nv_ast.specs.Sizes.{main_words}
use Rattle.nv_ast.specs.Tree.{ProgramTree}
use Rattle.nv_memtext.specs.MemoryText.{Gives}
use Rattle.nv_meaning.specs.Meaning.{source}
use Rattle.novac_machine.specs.Machine.{IsMemoryRefusedFor, full_text}
use Rattle.nova_compile.specs.Sources.{IsTypedSource}
use Rattle.nova_compile.specs.Programs.{HasTyped}
use Rattle.novac_commands.specs.Reading.{SourceRefuses}
use Rattle.novac_words.specs.Status.{outcome_status}
use Rattle.novac_words.specs.declared.refusal.Refusal.{Refusal}
use Rattle.novac_words.specs.declared.status.Status.{Status}

-- the source is refused, or else the memory text, for as many words as main takes
abbrev pub ExecRefuses : List ℕ → List ℕ → Refusal → Type 0
ExecRefuses text memory e =
    SourceRefuses text e ⊎ HasTyped text (λ program. IsMemoryRefusedFor (main_words program) memory e)

-- the source is that of a program, and the memory text gives its arguments and memories
abbrev pub HasJob : List ℕ → List ℕ → Type 0
HasJob text memory = HasTyped text (λ program. (packet : Memories) × ((arguments : List ℕ) × Gives (main_words program) memory packet arguments))

-- the status and the text are those of what the program of the source means, with so many calls, on the arguments and
-- memories that the memory text gives
pub record IsExecuted (source_text memory : List ℕ) (calls : ℕ) (status : Status) (text : List ℕ) : Type 0 where
  pub program : ProgramTree
  pub is_source : IsTypedSource source_text program
  pub packet : Memories
  pub arguments : List ℕ
  pub given : Gives (main_words program) memory packet arguments
  pub ends : status ≡ outcome_status (source program arguments packet calls).outcome
  pub prints : text ≡ full_text (source program arguments packet calls)
