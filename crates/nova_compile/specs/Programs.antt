-- The typed program of a text.
use Rattle.std.specs.Prelude.{ℕ, List}
use Rattle.nv_ast.specs.Tree.{ProgramTree}
use Rattle.nova_compile.specs.Sources.{IsTypedSource}

-- the text is that of a typed program, not too large, of which this holds
abbrev pub HasTyped : List ℕ → (ProgramTree → Type 0) → Type 0
HasTyped text P = (program : ProgramTree) × IsTypedSource text program × P program
