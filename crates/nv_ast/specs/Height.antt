-- The heights of trees: 1 for a node without children of its kind, else one more than the highest child.
use Rattle.std.specs.Prelude.{ℕ, ◌+◌, max, List, [], ◌∷◌}
use Rattle.nv_ast.specs.Tree.{FunTree, DeclTree, LayoutDecl, ExceptionDecl, GroupDecl}
use Rattle.nv_ast.specs.Tree.{LayoutTree, NamedLayout, GapLayout, PartsLayout, JoinedLayout, LayoutTrees, no_layouts, layout_and, FieldTree, BitsField, InnerField, OverlayField, FieldTrees, no_fields, field_and}
use Rattle.nv_ast.specs.Tree.{TypeTree, WordType, BoolType, PackedType, UnpackedType, TupleType, RecordType, TypeTrees, no_types, type_and, NamedTypes, no_named_types, named_type_and}
use Rattle.nv_ast.specs.Tree.{PatternTree, NamePattern, AnyPattern, TuplePattern, PatternTrees, no_patterns, pattern_and}
use Rattle.nv_ast.specs.Tree.{Tree, NumberTree, TruthTree, VarTree, ParenTree, TupleTree, FieldsTree, DotTree, InvertTree, NegateTree, BinaryTree, ShiftTree, CallTree, UnpackTree, PackTree, RaiseTree, IfTree, TryTree, FetchTree, BlockTree, Trees, no_trees, tree_and, NamedTrees, no_named_trees, named_tree_and, StatementTree, LetStatement, StoreStatement, StatementTrees, no_statements, statement_and}

-- ---- layouts: an inner layout is as high as it is by itself
abbrev mutual
  pub layout_height : LayoutTree → ℕ
  layout_height (NamedLayout l) = 1
  layout_height (GapLayout n) = 1
  layout_height (PartsLayout fs) = 1 + highest_field fs
  layout_height (JoinedLayout ls) = 1 + highest_layout ls

  pub highest_layout : LayoutTrees → ℕ
  highest_layout no_layouts = 0
  highest_layout (layout_and l ls) = max (layout_height l) (highest_layout ls)

  pub field_height : FieldTree → ℕ
  field_height (BitsField n) = 1
  field_height (InnerField l) = layout_height l
  field_height (OverlayField fs) = 1 + highest_field fs

  pub highest_field : FieldTrees → ℕ
  highest_field no_fields = 0
  highest_field (field_and x f fs) = max (field_height f) (highest_field fs)

-- ---- types
abbrev mutual
  pub type_height : TypeTree → ℕ
  type_height (WordType n) = 1
  type_height BoolType = 1
  type_height (PackedType l) = 1
  type_height (UnpackedType l) = 1
  type_height (TupleType ts) = 1 + highest_type ts
  type_height (RecordType ts) = 1 + highest_named_type ts

  pub highest_type : TypeTrees → ℕ
  highest_type no_types = 0
  highest_type (type_and t ts) = max (type_height t) (highest_type ts)

  pub highest_named_type : NamedTypes → ℕ
  highest_named_type no_named_types = 0
  highest_named_type (named_type_and x t ts) = max (type_height t) (highest_named_type ts)

-- ---- patterns
abbrev mutual
  pub pattern_height : PatternTree → ℕ
  pattern_height (NamePattern x) = 1
  pattern_height AnyPattern = 1
  pattern_height (TuplePattern ps) = 1 + highest_pattern ps

  pub highest_pattern : PatternTrees → ℕ
  highest_pattern no_patterns = 0
  highest_pattern (pattern_and p ps) = max (pattern_height p) (highest_pattern ps)

-- ---- expressions: the children of a block are its statements and its tail, those of a statement its expressions
abbrev mutual
  pub height : Tree → ℕ
  height (NumberTree s n) = 1
  height (TruthTree s b) = 1
  height (VarTree s x) = 1
  height (ParenTree s e) = 1 + height e
  height (TupleTree s es) = 1 + highest es
  height (FieldsTree s es) = 1 + highest_named es
  height (DotTree s e x) = 1 + height e
  height (InvertTree s e) = 1 + height e
  height (NegateTree s e) = 1 + height e
  height (BinaryTree s op a b) = 1 + max (height a) (height b)
  height (ShiftTree s op e n) = 1 + height e
  height (CallTree s f es) = 1 + highest es
  height (UnpackTree s l e) = 1 + height e
  height (PackTree s l e) = 1 + height e
  height (RaiseTree s x es) = 1 + highest es
  height (IfTree s c a b) = 1 + max (height c) (max (height a) (height b))
  height (TryTree s a x ps h) = 1 + max (height a) (height h)
  height (FetchTree s m n e) = 1 + height e
  height (BlockTree s sts e) = 1 + max (highest_statement sts) (height e)

  pub highest : Trees → ℕ
  highest no_trees = 0
  highest (tree_and e es) = max (height e) (highest es)

  pub highest_named : NamedTrees → ℕ
  highest_named no_named_trees = 0
  highest_named (named_tree_and x e es) = max (height e) (highest_named es)

  pub statement_height : StatementTree → ℕ
  statement_height (LetStatement s p e) = 1 + height e
  statement_height (StoreStatement s m a e) = 1 + max (height a) (height e)

  pub highest_statement : StatementTrees → ℕ
  highest_statement no_statements = 0
  highest_statement (statement_and st sts) = max (statement_height st) (highest_statement sts)

-- ---- the highest pattern inside an expression, 0 where it has none
abbrev mutual
  pub pattern_inside : Tree → ℕ
  pattern_inside (NumberTree s n) = 0
  pattern_inside (TruthTree s b) = 0
  pattern_inside (VarTree s x) = 0
  pattern_inside (ParenTree s e) = pattern_inside e
  pattern_inside (TupleTree s es) = pattern_inside_all es
  pattern_inside (FieldsTree s es) = pattern_inside_named es
  pattern_inside (DotTree s e x) = pattern_inside e
  pattern_inside (InvertTree s e) = pattern_inside e
  pattern_inside (NegateTree s e) = pattern_inside e
  pattern_inside (BinaryTree s op a b) = max (pattern_inside a) (pattern_inside b)
  pattern_inside (ShiftTree s op e n) = pattern_inside e
  pattern_inside (CallTree s f es) = pattern_inside_all es
  pattern_inside (UnpackTree s l e) = pattern_inside e
  pattern_inside (PackTree s l e) = pattern_inside e
  pattern_inside (RaiseTree s x es) = pattern_inside_all es
  pattern_inside (IfTree s c a b) = max (pattern_inside c) (max (pattern_inside a) (pattern_inside b))
  pattern_inside (TryTree s a x ps h) = max (pattern_inside a) (max (highest_pattern ps) (pattern_inside h))
  pattern_inside (FetchTree s m n e) = pattern_inside e
  pattern_inside (BlockTree s sts e) = max (pattern_inside_statements sts) (pattern_inside e)

  pub pattern_inside_all : Trees → ℕ
  pattern_inside_all no_trees = 0
  pattern_inside_all (tree_and e es) = max (pattern_inside e) (pattern_inside_all es)

  pub pattern_inside_named : NamedTrees → ℕ
  pattern_inside_named no_named_trees = 0
  pattern_inside_named (named_tree_and x e es) = max (pattern_inside e) (pattern_inside_named es)

  pub pattern_inside_statement : StatementTree → ℕ
  pattern_inside_statement (LetStatement s p e) = max (pattern_height p) (pattern_inside e)
  pattern_inside_statement (StoreStatement s m a e) = max (pattern_inside a) (pattern_inside e)

  pub pattern_inside_statements : StatementTrees → ℕ
  pattern_inside_statements no_statements = 0
  pattern_inside_statements (statement_and st sts) = max (pattern_inside_statement st) (pattern_inside_statements sts)

-- ---- the highest expression, pattern, type or layout, each by itself

-- of a function
abbrev pub fun_height : FunTree → ℕ
fun_height f = max (highest_named_type f.params) (max (type_height f.result) (max (height f.body) (pattern_inside f.body)))

-- of functions
abbrev pub highest_fun : List FunTree → ℕ
highest_fun [] = 0
highest_fun (f ∷ fs) = max (fun_height f) (highest_fun fs)

-- of a declaration
abbrev pub decl_height : DeclTree → ℕ
decl_height (LayoutDecl x l s) = layout_height l
decl_height (ExceptionDecl x ts s) = highest_type ts
decl_height (GroupDecl fs) = highest_fun fs

-- of declarations
abbrev pub highest_decl : List DeclTree → ℕ
highest_decl [] = 0
highest_decl (d ∷ ds) = max (decl_height d) (highest_decl ds)
