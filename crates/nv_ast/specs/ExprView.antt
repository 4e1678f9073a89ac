-- The tree that an expression of the program stands for.
use Rattle.std.specs.Prelude.{ℕ, List, [], ◌∷◌}
use Rattle.nv_ast.specs.declared.token.Span.{Span}
use Rattle.nv_ast.specs.declared.tree.Expr.{Expr, out-Expr}
use Rattle.nv_ast.specs.declared.tree.Stmt.{Stmt}
use Rattle.nv_ast.specs.declared.tree.Stmt.TheVariants.{Let', Store'}
use Rattle.nv_ast.specs.declared.tree.Kind.{Kind}
use Rattle.nv_ast.specs.declared.tree.Kind.TheVariants.{Number, Truth, Var, Paren', Tuple', Fields', Dot', Invert', Negate', Binary', Shift', Call', Unpack', Pack', Raise', If', Try', Fetch', Block'}
use Rattle.nv_ast.specs.declared.tree.Kind.TheBlock.{Row_of-Expr, end_of-Expr, more_of-Expr, Row_of-Kind-Fields-0-2, end_of-Kind-Fields-0-2, more_of-Kind-Fields-0-2, Row_of-Stmt, end_of-Stmt, more_of-Stmt}
use Rattle.nv_ast.specs.PatternView.{pattern_tree, list_patterns}
use Rattle.nv_ast.specs.Tree.{Tree, NumberTree, TruthTree, VarTree, ParenTree, TupleTree, FieldsTree, DotTree, InvertTree, NegateTree, BinaryTree, ShiftTree, CallTree, UnpackTree, PackTree, RaiseTree, IfTree, TryTree, FetchTree, BlockTree, Trees, no_trees, tree_and, NamedTrees, no_named_trees, named_tree_and, StatementTree, LetStatement, StoreStatement, StatementTrees, no_statements, statement_and}

abbrev mutual
  pub kind_tree : Kind → Span → Tree
  kind_tree (Number n) s = NumberTree s n
  kind_tree (Truth b) s = TruthTree s b
  kind_tree (Var x) s = VarTree s x
  kind_tree (Paren' p t k) s = ParenTree s (kind_tree k t)
  kind_tree (Tuple' v row) s = TupleTree s (row_trees row)
  kind_tree (Fields' v row) s = FieldsTree s (row_named_trees row)
  kind_tree (Dot' p t k x) s = DotTree s (kind_tree k t) x
  kind_tree (Invert' p t k) s = InvertTree s (kind_tree k t)
  kind_tree (Negate' p t k) s = NegateTree s (kind_tree k t)
  kind_tree (Binary' op p t k q u l) s = BinaryTree s op (kind_tree k t) (kind_tree l u)
  kind_tree (Shift' op p t k n) s = ShiftTree s op (kind_tree k t) n
  kind_tree (Call' f v row) s = CallTree s f (row_trees row)
  kind_tree (Unpack' x p t k) s = UnpackTree s x (kind_tree k t)
  kind_tree (Pack' x p t k) s = PackTree s x (kind_tree k t)
  kind_tree (Raise' x v row) s = RaiseTree s x (row_trees row)
  kind_tree (If' p t k q u l r w m) s = IfTree s (kind_tree k t) (kind_tree l u) (kind_tree m w)
  kind_tree (Try' p t k x ps q u l) s = TryTree s (kind_tree k t) x (list_patterns ps.items) (kind_tree l u)
  kind_tree (Fetch' m n p t k) s = FetchTree s m n (kind_tree k t)
  kind_tree (Block' v row p t k) s = BlockTree s (row_statements row) (kind_tree k t)

  pub row_trees : {m : _} → Row_of-Expr m → Trees
  row_trees end_of-Expr = no_trees
  row_trees (more_of-Expr s k row) = tree_and (kind_tree k s) (row_trees row)

  pub row_named_trees : {m : _} → Row_of-Kind-Fields-0-2 m → NamedTrees
  row_named_trees end_of-Kind-Fields-0-2 = no_named_trees
  row_named_trees (more_of-Kind-Fields-0-2 x s k row) = named_tree_and x (kind_tree k s) (row_named_trees row)

  pub statement_tree : Stmt → StatementTree
  statement_tree (Let' p t k s) = LetStatement s (pattern_tree p) (kind_tree k t)
  statement_tree (Store' m t k u l s) = StoreStatement s m (kind_tree k t) (kind_tree l u)

  pub row_statements : {m : _} → Row_of-Stmt m → StatementTrees
  row_statements end_of-Stmt = no_statements
  row_statements (more_of-Stmt st row) = statement_and (statement_tree st) (row_statements row)

-- of an expression
abbrev pub tree_of : Expr → Tree
tree_of e = kind_tree (out-Expr e).kind (out-Expr e).span

-- of a list of expressions
abbrev pub list_trees : List Expr → Trees
list_trees [] = no_trees
list_trees (e ∷ es) = tree_and (tree_of e) (list_trees es)

-- of a list of expressions with their names
abbrev pub list_named_trees : List (List ℕ × Expr) → NamedTrees
list_named_trees [] = no_named_trees
list_named_trees (e ∷ es) = named_tree_and e.0 (tree_of e.1) (list_named_trees es)

-- of a list of statements
abbrev pub list_statements : List Stmt → StatementTrees
list_statements [] = no_statements
list_statements (st ∷ sts) = statement_and (statement_tree st) (list_statements sts)
