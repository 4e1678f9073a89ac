-- Which program a text is, and why it is refused.
use Rattle.std.specs.Prelude.{◌≡◌, ◌++◌, ℕ, List, [], ◌∷◌, codes, ⊤}
use Rattle.nv_ast.specs.Laws.{span}
use Rattle.nv_ast.specs.Tree.{ExceptionDecl, GroupDecl, LayoutDecl, ProgramTree, no_types, PartsLayout, no_fields}
use Rattle.nova_compile.specs.Sources.{IsCause, IsSource, IsTypedSource}
use Rattle.nova_compile.specs.declared.error.FrontError.{FrontError}
use Rattle.novac_words.specs.declared.refusal.Refusal.{Refusal}
use Rattle.novac_words.specs.declared.refusal.Refusal.TheVariants.{SourceType}
use Rattle.nova_compile.specs.Naming.{source_exceptions}
use Rattle.nova_compile.specs.Programs.{HasTyped}
use Rattle.novac_commands.specs.Reading.{SourceRefuses}

-- A text is at most one program's, and has at most one cause of refusal, as the front end and as the commands tell it. It has none where
-- it is that of a typed program, not too large. The empty text is a program without a main.
pub record OneProgram : Type 0 where
  pub program : (text : List ℕ) (p q : ProgramTree) → IsSource text p → IsSource text q → p ≡ q
  pub cause : (text : List ℕ) (e f : FrontError) → IsCause text e → IsCause text f → e ≡ f
  pub typed : (text : List ℕ) (p : ProgramTree) (e : FrontError) → IsTypedSource text p → IsCause text e → ⊥
  pub refused : (text : List ℕ) (e f : Refusal) → SourceRefuses text e → SourceRefuses text f → e ≡ f
  pub accepted : (text : List ℕ) (e : Refusal) → HasTyped text (λ _. ⊤) → SourceRefuses text e → ⊥
  pub empty : SourceRefuses [] (SourceType 1 (span 0 0))

-- exception A[]; layout l = {}; exception B[], where the last begins on the second line
abbrev pub two_exceptions : ProgramTree
two_exceptions = record {
  decls = ExceptionDecl (codes "A") no_types (span 0 13) ∷ LayoutDecl (codes "l") (PartsLayout no_fields) (span 14 27) ∷ ExceptionDecl (codes "B") no_types (span 29 42) ∷ GroupDecl [] ∷ [];
  length = 42;
}

-- the names of exceptions come in the order of their declarations, each with its line
abbrev pub NamesByLines : Type 0
NamesByLines = source_exceptions (codes "exception A[] layout l = {};" ++ 10 ∷ codes "exception B[]") two_exceptions ≡ (1, codes "A") ∷ (2, codes "B") ∷ []
