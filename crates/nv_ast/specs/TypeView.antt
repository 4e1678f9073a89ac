-- The tree that a type of the program's text stands for.
use Rattle.std.specs.Prelude.{ℕ, List, [], ◌∷◌}
use Rattle.nv_ast.specs.declared.tree.TyText.{TyText}
use Rattle.nv_ast.specs.declared.tree.TyText.TheVariants.{Word, Bool, Packed, Unpacked, Tuple', Fields'}
use Rattle.nv_ast.specs.declared.tree.TyText.TheBlock.{Row_of-TyText, end_of-TyText, more_of-TyText, Row_of-TyText-Fields-0-2, end_of-TyText-Fields-0-2, more_of-TyText-Fields-0-2}
use Rattle.nv_ast.specs.Tree.{TypeTree, WordType, BoolType, PackedType, UnpackedType, TupleType, RecordType, TypeTrees, no_types, type_and, NamedTypes, no_named_types, named_type_and}

abbrev mutual
  pub type_tree : TyText → TypeTree
  type_tree (Word n) = WordType n
  type_tree Bool = BoolType
  type_tree (Packed l) = PackedType l
  type_tree (Unpacked l) = UnpackedType l
  type_tree (Tuple' v row) = TupleType (row_types row)
  type_tree (Fields' v row) = RecordType (row_named_types row)

  pub row_types : {m : _} → Row_of-TyText m → TypeTrees
  row_types end_of-TyText = no_types
  row_types (more_of-TyText t row) = type_and (type_tree t) (row_types row)

  pub row_named_types : {m : _} → Row_of-TyText-Fields-0-2 m → NamedTypes
  row_named_types end_of-TyText-Fields-0-2 = no_named_types
  row_named_types (more_of-TyText-Fields-0-2 x t row) = named_type_and x (type_tree t) (row_named_types row)

-- of a list of types
abbrev pub list_types : List TyText → TypeTrees
list_types [] = no_types
list_types (t ∷ ts) = type_and (type_tree t) (list_types ts)

-- of a list of types with their names
abbrev pub list_named_types : List (List ℕ × TyText) → NamedTypes
list_named_types [] = no_named_types
list_named_types (t ∷ ts) = named_type_and t.0 (type_tree t.1) (list_named_types ts)
