-- The tree that a pattern of the program stands for.
use Rattle.std.specs.Prelude.{List, [], ◌∷◌}
use Rattle.nv_ast.specs.declared.tree.Pat.{Pat}
use Rattle.nv_ast.specs.declared.tree.Pat.TheVariants.{Name, Any, Tuple'}
use Rattle.nv_ast.specs.declared.tree.Pat.TheBlock.{Row_of-Pat, end_of-Pat, more_of-Pat}
use Rattle.nv_ast.specs.Tree.{PatternTree, NamePattern, AnyPattern, TuplePattern, PatternTrees, no_patterns, pattern_and}

abbrev mutual
  pub pattern_tree : Pat → PatternTree
  pattern_tree (Name x) = NamePattern x
  pattern_tree Any = AnyPattern
  pattern_tree (Tuple' v row) = TuplePattern (row_patterns row)

  pub row_patterns : {m : _} → Row_of-Pat m → PatternTrees
  row_patterns end_of-Pat = no_patterns
  row_patterns (more_of-Pat p row) = pattern_and (pattern_tree p) (row_patterns row)

-- of a list of patterns
abbrev pub list_patterns : List Pat → PatternTrees
list_patterns [] = no_patterns
list_patterns (p ∷ ps) = pattern_and (pattern_tree p) (list_patterns ps)
