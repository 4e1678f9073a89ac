-- What is found of main.
use Rattle.std.specs.Prelude.{◌≡◌, min, Option, IfSome, is_some}
use Rattle.nv_ast.specs.Tests.{is_among, names_of, value_at, look_up}
use Rattle.nv_ast.specs.Scope.{Known}
use Rattle.nv_ast.specs.Faults.{main_name}
use Rattle.nv_ast.specs.Sizes.{GroupNumbers, signature_words}
use Rattle.nv_types.specs.declared.main_sizes.Sizes.{Sizes}
use Rattle.nv_types_scopes.specs.declared.functions.Checker.{Checker}
use Rattle.nv_types_table.specs.inner.Cells.{still}
use Rattle.nv_types_scopes.specs.inner.Standing.{Counts}
use Rattle.nv_types_scopes.specs.inner.Declarations.{Between}

-- the sizes of main after all declarations, if there is one
pub record FindsMain (c : Checker) (r : Option Sizes) : Type 0 where
  pub found : (k : Known) → Between c k → is_some r ≡ is_among main_name (names_of k.functions)
  pub sized : (k : Known) (sizes needs : GroupNumbers) → Between c k → Counts c sizes needs → IfSome r (λ s. s.expanded ≡ min (value_at 0 main_name sizes) 4294967295)
  pub needed : (k : Known) (sizes needs : GroupNumbers) → Between c k → Counts c sizes needs → IfSome r (λ s. s.need ≡ still (value_at 0 main_name needs))
  pub of_params : (k : Known) → Between c k → IfSome r (λ s. s.params ≡ min (signature_words (look_up main_name k.functions)) 8)
