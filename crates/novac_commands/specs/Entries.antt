-- What the command `counts` does.
use Rattle.std.specs.Prelude.{◌≡◌, ℕ, List, [], ◌∷◌}
use Rattle.nv_base.specs.Meanings.{IsOver, seen}
use Rattle.nv_base.specs.Memories.{Memories}
use Rattle.nv_ast.specs.Sizes.{main_words}
use Rattle.nv_ast.specs.Tree.{ProgramTree}
use Rattle.nv_memtext.specs.MemoryText.{Gives}
use Rattle.nv_meaning.specs.Meaning.{source}
use Rattle.ssu_ir.specs.Meaning.{ssu_meaning}
use Rattle.ssu_ir.specs.Tree.{Label}
use Rattle.novac_commands.specs.Counting.{AreCounted}
use Rattle.nova_compile.specs.Sources.{IsTypedSource}
use Rattle.nova_compile.specs.Forms.{IsBoundedFormOf}
use Rattle.novac_machine.specs.Machine.{full_text}
use Rattle.novac_machine.specs.Saving.{File, file}
use Rattle.novac_words.specs.Status.{outcome_status}
use Rattle.novac_words.specs.declared.status.Status.{Status}

-- The status and the text are those of the run of a form in single use that has the program's outcomes and keeps to its bounds, with so many
-- jumps, on the arguments and memories that the memory text gives; how often that run has entered each label is saved. A run that is over is
-- the program's, with some number of calls.
pub record CountsMake (source_text memory name : List ℕ) (jumps : ℕ) (status : Status) (files : List File) (text : List ℕ) : Type 0 where
  pub program : ProgramTree
  pub is_source : IsTypedSource source_text program
  pub form : List Label
  pub is_form : IsBoundedFormOf program form
  pub packet : Memories
  pub arguments : List ℕ
  pub given : Gives (main_words program) memory packet arguments
  pub counts : List ℕ
  pub saves : files ≡ file name counts ∷ []
  pub counted : AreCounted form arguments packet jumps counts
  pub ends : status ≡ outcome_status (ssu_meaning form arguments packet jumps).outcome
  pub prints : text ≡ full_text (ssu_meaning form arguments packet jumps)
  pub same : IsOver (ssu_meaning form arguments packet jumps).outcome → (calls : ℕ) × (seen (source program arguments packet calls) ≡ seen (ssu_meaning form arguments packet jumps))
