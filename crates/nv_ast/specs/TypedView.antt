-- The program of a typed one.
use Rattle.nv_ast.specs.declared.typed.Typed.{Typed}
use Rattle.nv_ast.specs.Tree.{ProgramTree}
use Rattle.nv_ast.specs.ProgramView.{program_of}

abbrev pub typed_program : Typed → ProgramTree
typed_program t = program_of t.program
