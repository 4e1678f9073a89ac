-- What the definitions give of the text that a seed makes.
use Rattle.std.specs.Prelude.{◌≡◌, ◌≤◌, ℕ, [], ◌∷◌, ◌++◌, codes, length}
use Rattle.nv_base.specs.declared.outcome.Outcome.TheVariants.{Ended}
use Rattle.nv_base.specs.Memories.{Memories}
use Rattle.nv_ast.specs.Accepted.{IsAccepted}
use Rattle.nv_ast.specs.Height.{highest_decl}
use Rattle.nv_ast.specs.Sizes.{main_words, room}
use Rattle.nv_ast.specs.Tree.{ProgramTree}
use Rattle.nv_meaning.specs.Meaning.{source}
use Rattle.nv_text.specs.Limits.{source_limit}
use Rattle.nv_text.specs.Program.{IsTextOf}
use Rattle.nv_generate.specs.Made.{made}

-- two lines of the seed 0
abbrev pub TwoLines : Type 0
TwoLines = made 0 2 ≡ codes "fun main[a: word, b: word]: word {" ++ 10 ∷ codes "let x0 = b + b;" ++ 10 ∷ codes "let x1 = x0 ^ b;" ++ 10 ∷ codes "x1 }" ++ 10 ∷ []

-- the text that a seed makes is one that commands take, of a program without a fault of its types, low, not too large, and with little room;
-- on the arguments 1 and 2 it ends with one word, whatever the memories and the number of calls, and changes nothing
pub record HasProgram (seed size : ℕ) : Type 0 where
  pub program : ProgramTree
  pub word : ℕ
  pub short : length (made seed size) ≤ source_limit
  pub reads : IsTextOf (made seed size) program
  pub low : highest_decl program.decls ≤ 100
  pub accepted : IsAccepted program
  pub narrow : room program ≤ 29
  pub two : main_words program ≡ 2
  pub ends : (p : Memories) (calls : ℕ) → source program (1 ∷ 2 ∷ []) p calls ≡ record { outcome = Ended (word ∷ []); packet = p; writes = [] }

abbrev pub EachHasProgram : Type 0
EachHasProgram = (seed size : ℕ) → 1 ≤ size → size ≤ 500 → HasProgram seed size
