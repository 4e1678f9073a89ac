-- How large a text is: what a recursion over it goes by.
use Rattle.std.specs.Prelude.{ℕ, ◌+◌, ◌*◌, List, [], ◌∷◌}
use Rattle.nv_ast.specs.Tree.{Tree, NumberTree, TruthTree, VarTree, ParenTree, TupleTree, FieldsTree, DotTree, InvertTree, NegateTree, BinaryTree, ShiftTree, CallTree, UnpackTree, PackTree, RaiseTree, IfTree, TryTree, FetchTree, BlockTree, Trees, no_trees, tree_and, NamedTrees, no_named_trees, named_tree_and, StatementTree, LetStatement, StoreStatement, StatementTrees, no_statements, statement_and, FunTree}

abbrev mutual
  pub weight : Tree → ℕ
  weight (NumberTree s n) = 1
  weight (TruthTree s b) = 1
  weight (VarTree s x) = 1
  weight (ParenTree s e) = 1 + weight e
  weight (TupleTree s es) = 1 + weight_all es
  weight (FieldsTree s es) = 1 + weight_named es
  weight (DotTree s e x) = 1 + weight e
  weight (InvertTree s e) = 1 + weight e
  weight (NegateTree s e) = 1 + weight e
  weight (BinaryTree s op a b) = 1 + (weight a + weight b)
  weight (ShiftTree s op e n) = 1 + weight e
  weight (CallTree s f es) = 1 + weight_all es
  weight (UnpackTree s l e) = 1 + weight e
  weight (PackTree s l e) = 1 + weight e
  weight (RaiseTree s x es) = 1 + weight_all es
  weight (IfTree s c a b) = 1 + (weight c + (weight a + weight b))
  weight (TryTree s a x ps h) = 1 + (weight a + weight h)
  weight (FetchTree s m n e) = 1 + weight e
  weight (BlockTree s sts e) = 1 + (weight_statements sts + weight e)

  pub weight_all : Trees → ℕ
  weight_all no_trees = 0
  weight_all (tree_and e es) = weight e + weight_all es

  pub weight_named : NamedTrees → ℕ
  weight_named no_named_trees = 0
  weight_named (named_tree_and x e es) = weight e + weight_named es

  pub weight_statement : StatementTree → ℕ
  weight_statement (LetStatement s p e) = 1 + weight e
  weight_statement (StoreStatement s m a e) = 1 + (weight a + weight e)

  pub weight_statements : StatementTrees → ℕ
  weight_statements no_statements = 0
  weight_statements (statement_and st sts) = weight_statement st + weight_statements sts

-- more than eight times the weight of each body
abbrev pub span : List FunTree → ℕ
span [] = 1
span (f ∷ fs) = 8 * weight f.body + span fs
