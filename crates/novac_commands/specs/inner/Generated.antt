-- Programs that mean a word, and have little room.
use Rattle.std.specs.Prelude.{◌≡◌, ◌≤◌, ℕ, List, [], ◌∷◌, length}
use Rattle.nv_ast.specs.Sizes.{main_words, room}
use Rattle.nv_ast.specs.Tree.{ProgramTree}
use Rattle.nv_ast.specs.TypedView.{typed_program}
use Rattle.nova_compile.specs.Sources.{IsTypedSource}
use Rattle.nova_back.specs.Causes.{report_cost}
use Rattle.novac_commands.specs.Generating.{MeansWord, generated_text}
use Rattle.nova_compile.specs.declared.build.Compiled.{Compiled}

-- the program takes two words, and means some word on the arguments 1 and 2
pub record HasWord (program : ProgramTree) : Type 0 where
  pub two : main_words program ≡ 2
  pub word : ℕ
  pub means : MeansWord program word

-- these are the one word that the program means
abbrev pub AreWord : ProgramTree → List ℕ → Type 0
AreWord program words = (word : ℕ) × (words ≡ word ∷ []) × MeansWord program word

-- the program of the text wants no more words at once than there can be slots
abbrev pub HasRoom : List ℕ → Type 0
HasRoom text = (program : ProgramTree) → IsTypedSource text program → room program ≤ 128

-- the line of a seed, a size, a number of bytes and what was compiled tells some word that its program means
abbrev pub TellsOf : ℕ → ℕ → ℕ → Compiled → List ℕ → Type 0
TellsOf seed size bytes t line =
    (word : ℕ) × MeansWord (typed_program t.typed) word × (line ≡ generated_text seed size bytes (length t.built.code.list) t.built.report.verdict (report_cost t.built.report) word)
