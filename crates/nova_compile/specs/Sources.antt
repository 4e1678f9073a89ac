-- Which program a text is, and why it has none that is typed and not too large.
use Rattle.std.specs.Prelude.{◌≡◌, ◌≤◌, ◌<◌, ℕ, List}
use Rattle.nv_ast.specs.declared.token.Span.{Span}
use Rattle.nv_ast.specs.Faults.{IsTyped, IsFault}
use Rattle.nv_ast.specs.Height.{highest_decl}
use Rattle.nv_ast.specs.Sizes.{expanded_size}
use Rattle.nv_ast.specs.Tree.{ProgramTree}
use Rattle.nv_text.specs.Program.{IsTextOf, FaultOf}
use Rattle.nv_ast.specs.Accepted.{IsAccepted}
use Rattle.nova_compile.specs.declared.error.FrontError.{FrontError}
use Rattle.nova_compile.specs.declared.error.FrontError.TheVariants.{NoMemory, Text, Fault, TooLarge}

-- the text is that of this program, no tree of which is higher than 100
pub record IsSource (text : List ℕ) (program : ProgramTree) : Type 0 where
  pub reads : IsTextOf text program
  pub low : highest_decl program.decls ≤ 100

-- the same of a program that is typed, and whose expanded size is at most 4,096
pub record IsTypedSource (text : List ℕ) (program : ProgramTree) : Type 0 where
  pub is_source : IsSource text program
  pub accepted : IsAccepted program

-- the text is that of a program with a fault of its types, the first of which is this one
pub record IsUntyped (text : List ℕ) (kind : ℕ) (place : Span) : Type 0 where
  pub program : ProgramTree
  pub is_source : IsSource text program
  pub fault : IsFault program kind place

-- the text is that of a typed program with this expanded size, which is over 4,096
pub record IsLarge (text : List ℕ) (size : ℕ) : Type 0 where
  pub program : ProgramTree
  pub is_source : IsSource text program
  pub typed : IsTyped program
  pub expanded : size ≡ expanded_size program
  pub large : 4096 < size

-- why a text is refused: it has this fault, or its program has a fault of its types or is too large
abbrev pub IsCause : List ℕ → FrontError → Type 0
IsCause text NoMemory = ⊥
IsCause text (Text f) = FaultOf text f
IsCause text (Fault kind place) = IsUntyped text kind place
IsCause text (TooLarge size) = IsLarge text size
