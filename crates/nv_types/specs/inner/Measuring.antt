-- What the walk over a program finds.
use Rattle.std.specs.Prelude.{◌≡◌, ℕ, [], Result, IfOk}
use Rattle.nv_ast.specs.Tree.{ProgramTree}
use Rattle.nv_ast.specs.Tests.{value_at}
use Rattle.nv_ast.specs.Scope.{nothing_known}
use Rattle.nv_ast.specs.Faults.{main_name, program_faults}
use Rattle.nv_ast.specs.Sizes.{needs_behind, expanded_size, main_words}
use Rattle.nv_types.specs.declared.main_sizes.Sizes.{Sizes}
use Rattle.nv_types_scopes.specs.declared.functions.Checker.{Checker}
use Rattle.nv_types_table.specs.declared.error.TypeError.{TypeError}
use Rattle.nv_types_table.specs.inner.Cells.{still}
use Rattle.nv_types_table.specs.inner.Faulty.{Judges}
use Rattle.nv_types_scopes.specs.inner.Declarations.{Started}

-- the need of main's group
abbrev pub main_need : ProgramTree → ℕ
main_need p = value_at 0 main_name (needs_behind [] nothing_known p.decls)

-- the sizes of a program
pub record IsSized (p : ProgramTree) (s : Sizes) : Type 0 where
  pub of_expanded : s.expanded ≡ expanded_size p
  pub of_need : s.need ≡ still (main_need p)
  pub of_params : s.params ≡ main_words p

-- the first fault of a program, or its sizes
pub record Measures (c : Checker) (p : ProgramTree) (r : Result Sizes TypeError) : Type 0 where
  pub judged : Started c → Judges (program_faults p) r
  pub sized : Started c → IfOk r (λ s. IsSized p s)
