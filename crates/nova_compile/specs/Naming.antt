-- The exceptions of a source, as the object of its code names them.
use Rattle.std.specs.Prelude.{ℕ, List, [], ◌∷◌}
use Rattle.nv_lines.specs.LineColumn.{line_at}
use Rattle.nv_ast.specs.Tree.{DeclTree, LayoutDecl, ExceptionDecl, GroupDecl, ProgramTree}

-- of each exception the line on which its declaration begins, and its name
abbrev pub exceptions_in : List ℕ → List DeclTree → List (ℕ × List ℕ)
exceptions_in text [] = []
exceptions_in text (LayoutDecl name l s ∷ ds) = exceptions_in text ds
exceptions_in text (ExceptionDecl name types s ∷ ds) = (line_at text s.first, name) ∷ exceptions_in text ds
exceptions_in text (GroupDecl functions ∷ ds) = exceptions_in text ds

-- in the order of their numbers, which is that of the declarations
abbrev pub source_exceptions : List ℕ → ProgramTree → List (ℕ × List ℕ)
source_exceptions text program = exceptions_in text program.decls
