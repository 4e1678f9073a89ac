-- The expanded size of a program, which counts a called group at each call, and its room, which bounds the words that are wanted at once.
-- Both are recursions on a text without faults; what they give of another text has no meaning.
use Rattle.std.specs.Prelude.{ℕ, ◌+◌, ◌*◌, max, min, if◌then◌else◌, List, [], ◌∷◌, ◌++◌, length, Option, Some, None}
use Rattle.std.specs.List.{list_any}
use Rattle.nv_ast.specs.Tree.{PatternTrees, Tree, NumberTree, TruthTree, VarTree, ParenTree, TupleTree, FieldsTree, DotTree, InvertTree, NegateTree, BinaryTree, ShiftTree, CallTree, UnpackTree, PackTree, RaiseTree, IfTree, TryTree, FetchTree, BlockTree, Trees, no_trees, tree_and, NamedTrees, no_named_trees, named_tree_and, StatementTree, LetStatement, StoreStatement, StatementTrees, no_statements, statement_and}
use Rattle.nv_ast.specs.Tree.{FunTree, DeclTree, LayoutDecl, ExceptionDecl, GroupDecl, ProgramTree}
use Rattle.nv_ast.specs.Tests.{is_among, value_at, look_up}
use Rattle.nv_ast.specs.Outline.{OutlineTree, bit_fields}
use Rattle.nv_ast.specs.Types.{Tys, total_words, words_of_value, total_named_words, named_types_of}
use Rattle.nv_ast.specs.Scope.{Signature, Known, nothing_known, Vars, bind_raised, param_vars, names_in, in_group, known_after}
use Rattle.nv_ast.specs.Typing.{type_at, vars_after, vars_behind}
use Rattle.nv_ast.specs.Faults.{main_name, known_behind}

-- the words of an expression's value, 0 where it has none
abbrev pub words_at : Known → Vars → Tree → ℕ
words_at k vars e = words_of_value (type_at k vars e)

-- the variables of a handler
abbrev pub handler_vars : Known → Vars → List ℕ → PatternTrees → Vars
handler_vars k vars x ps = bind_raised ps (look_up x k.exceptions) vars

-- a number for each function of the groups so far: its group's size, or its need
abbrev pub GroupNumbers : Type 0
GroupNumbers = List (List ℕ × ℕ)

-- the functions of a group, each with this number
abbrev pub numbered : ℕ → List FunTree → GroupNumbers
numbered n [] = []
numbered n (f ∷ fs) = (f.name, n) ∷ numbered n fs

-- the parameters of a function with their types, and the variables that they make
abbrev pub param_words : Known → FunTree → ℕ
param_words k f = total_named_words (named_types_of k.layouts f.params)

abbrev pub body_vars : Known → FunTree → Vars
body_vars k f = param_vars (named_types_of k.layouts f.params) []

-- ---- the expanded size: of each expression 1, the words of its value and its parts; of each statement 1 and its parts

-- 4 for each bit field of a layout, those of all alternatives
abbrev pub field_size : Option OutlineTree → ℕ
field_size None = 0
field_size (Some o) = 4 * length (bit_fields 0 o)

-- of a node without its parts
abbrev pub node_size : Known → Vars → Tree → ℕ
node_size k vars e = 1 + words_at k vars e

-- sizes: of the groups before; a call of one of them counts it, a call of the own group nothing
abbrev mutual
  pub expanded : GroupNumbers → Known → Vars → Tree → ℕ
  expanded sizes k vars (NumberTree s n) = node_size k vars (NumberTree s n)
  expanded sizes k vars (TruthTree s b) = node_size k vars (TruthTree s b)
  expanded sizes k vars (VarTree s x) = node_size k vars (VarTree s x)
  expanded sizes k vars (ParenTree s e) = node_size k vars (ParenTree s e) + expanded sizes k vars e
  expanded sizes k vars (TupleTree s es) = node_size k vars (TupleTree s es) + expanded_all sizes k vars es
  expanded sizes k vars (FieldsTree s es) = node_size k vars (FieldsTree s es) + expanded_named sizes k vars es
  expanded sizes k vars (DotTree s e x) = node_size k vars (DotTree s e x) + expanded sizes k vars e
  expanded sizes k vars (InvertTree s e) = node_size k vars (InvertTree s e) + expanded sizes k vars e
  expanded sizes k vars (NegateTree s e) = node_size k vars (NegateTree s e) + expanded sizes k vars e
  expanded sizes k vars (BinaryTree s op a b) = node_size k vars (BinaryTree s op a b) + (expanded sizes k vars a + expanded sizes k vars b)
  expanded sizes k vars (ShiftTree s op e n) = node_size k vars (ShiftTree s op e n) + expanded sizes k vars e
  expanded sizes k vars (CallTree s f es) = node_size k vars (CallTree s f es) + (value_at 0 f sizes + expanded_all sizes k vars es)
  expanded sizes k vars (UnpackTree s l e) = node_size k vars (UnpackTree s l e) + (field_size (look_up l k.layouts) + expanded sizes k vars e)
  expanded sizes k vars (PackTree s l e) = node_size k vars (PackTree s l e) + (field_size (look_up l k.layouts) + expanded sizes k vars e)
  expanded sizes k vars (RaiseTree s x es) = node_size k vars (RaiseTree s x es) + expanded_all sizes k vars es
  expanded sizes k vars (IfTree s c a b) = node_size k vars (IfTree s c a b) + (expanded sizes k vars c + (expanded sizes k vars a + expanded sizes k vars b))
  expanded sizes k vars (TryTree s a x ps h) = node_size k vars (TryTree s a x ps h) + (expanded sizes k vars a + expanded sizes k (handler_vars k vars x ps) h)
  expanded sizes k vars (FetchTree s m n a) = node_size k vars (FetchTree s m n a) + expanded sizes k vars a
  expanded sizes k vars (BlockTree s sts e) = node_size k vars (BlockTree s sts e) + (expanded_statements sizes k vars sts + expanded sizes k (vars_behind k vars sts) e)

  pub expanded_all : GroupNumbers → Known → Vars → Trees → ℕ
  expanded_all sizes k vars no_trees = 0
  expanded_all sizes k vars (tree_and e es) = expanded sizes k vars e + expanded_all sizes k vars es

  pub expanded_named : GroupNumbers → Known → Vars → NamedTrees → ℕ
  expanded_named sizes k vars no_named_trees = 0
  expanded_named sizes k vars (named_tree_and x e es) = expanded sizes k vars e + expanded_named sizes k vars es

  pub expanded_statement : GroupNumbers → Known → Vars → StatementTree → ℕ
  expanded_statement sizes k vars (LetStatement s p e) = 1 + expanded sizes k vars e
  expanded_statement sizes k vars (StoreStatement s m a e) = 1 + (expanded sizes k vars a + expanded sizes k vars e)

  pub expanded_statements : GroupNumbers → Known → Vars → StatementTrees → ℕ
  expanded_statements sizes k vars no_statements = 0
  expanded_statements sizes k vars (statement_and st sts) = expanded_statement sizes k vars st + expanded_statements sizes k (vars_after k vars st) sts

-- of a group: of each function 1, the words of its parameters and its body
abbrev pub group_size : GroupNumbers → Known → List FunTree → ℕ
group_size sizes k [] = 0
group_size sizes k (f ∷ fs) = (1 + (param_words k f + expanded sizes k (body_vars k f) f.body)) + group_size sizes k fs

-- of all groups in order
abbrev pub sizes_behind : GroupNumbers → Known → List DeclTree → GroupNumbers
sizes_behind sizes k [] = sizes
sizes_behind sizes k (LayoutDecl x l s ∷ ds) = sizes_behind sizes (known_after k (LayoutDecl x l s)) ds
sizes_behind sizes k (ExceptionDecl x ts s ∷ ds) = sizes_behind sizes (known_after k (ExceptionDecl x ts s)) ds
sizes_behind sizes k (GroupDecl fs ∷ ds) = sizes_behind (sizes ++ numbered (group_size sizes (in_group k fs) fs) fs) (known_after k (GroupDecl fs)) ds

-- the size of main's group, which stands still at 4,294,967,295
abbrev pub expanded_size : ProgramTree → ℕ
expanded_size p = min (value_at 0 main_name (sizes_behind [] nothing_known p.decls)) 4294967295

-- ---- the variables that are written in an expression
abbrev mutual
  pub variables : Tree → List (List ℕ)
  variables (NumberTree s n) = []
  variables (TruthTree s b) = []
  variables (VarTree s x) = x ∷ []
  variables (ParenTree s e) = variables e
  variables (TupleTree s es) = variables_all es
  variables (FieldsTree s es) = variables_named es
  variables (DotTree s e x) = variables e
  variables (InvertTree s e) = variables e
  variables (NegateTree s e) = variables e
  variables (BinaryTree s op a b) = variables a ++ variables b
  variables (ShiftTree s op e n) = variables e
  variables (CallTree s f es) = variables_all es
  variables (UnpackTree s l e) = variables e
  variables (PackTree s l e) = variables e
  variables (RaiseTree s x es) = variables_all es
  variables (IfTree s c a b) = variables c ++ (variables a ++ variables b)
  variables (TryTree s a x ps h) = variables a ++ variables h
  variables (FetchTree s m n a) = variables a
  variables (BlockTree s sts e) = variables_statements sts ++ variables e

  pub variables_all : Trees → List (List ℕ)
  variables_all no_trees = []
  variables_all (tree_and e es) = variables e ++ variables_all es

  pub variables_named : NamedTrees → List (List ℕ)
  variables_named no_named_trees = []
  variables_named (named_tree_and x e es) = variables e ++ variables_named es

  pub variables_statement : StatementTree → List (List ℕ)
  variables_statement (LetStatement s p e) = variables e
  variables_statement (StoreStatement s m a e) = variables a ++ variables e

  pub variables_statements : StatementTrees → List (List ℕ)
  variables_statements no_statements = []
  variables_statements (statement_and st sts) = variables_statement st ++ variables_statements sts

-- ---- the lets of a block so far, each with the names of its pattern and the words of its value
abbrev pub Lets : Type 0
Lets = List (List (List ℕ) × ℕ)

abbrev pub let_of : Known → Vars → StatementTree → Lets
let_of k vars (LetStatement s p e) = (names_in p, words_at k vars e) ∷ []
let_of k vars (StoreStatement s m a e) = []

abbrev pub lets_behind : Known → Vars → StatementTrees → Lets
lets_behind k vars no_statements = []
lets_behind k vars (statement_and st sts) = let_of k vars st ++ lets_behind k (vars_after k vars st) sts

-- the words of those lets of which some name is among these variables
abbrev pub pending : Lets → List (List ℕ) → ℕ
pending [] written = 0
pending ((names, n) ∷ lets) written = (if list_any (λ x. is_among x written) names then n else 0) + pending lets written

-- ---- the need: of each expression 2, the words of its value and of its parts, and the greatest need of a part

-- the words of parts
abbrev pub words_all : Known → Vars → Trees → ℕ
words_all k vars no_trees = 0
words_all k vars (tree_and e es) = words_at k vars e + words_all k vars es

abbrev pub words_named : Known → Vars → NamedTrees → ℕ
words_named k vars no_named_trees = 0
words_named k vars (named_tree_and x e es) = words_at k vars e + words_named k vars es

-- the words of an exception, if it is known
abbrev pub raised_words : Option Tys → ℕ
raised_words None = 0
raised_words (Some ts) = total_words ts

-- of a node without its parts
abbrev pub node_need : Known → Vars → Tree → ℕ
node_need k vars e = 2 + words_at k vars e

-- needs: of the groups before; a call of one of them has it among the needs of its parts
abbrev mutual
  pub need : GroupNumbers → Known → Vars → Tree → ℕ
  need needs k vars (NumberTree s n) = node_need k vars (NumberTree s n)
  need needs k vars (TruthTree s b) = node_need k vars (TruthTree s b)
  need needs k vars (VarTree s x) = node_need k vars (VarTree s x)
  need needs k vars (ParenTree s e) = node_need k vars (ParenTree s e) + (words_at k vars e + need needs k vars e)
  need needs k vars (TupleTree s es) = node_need k vars (TupleTree s es) + (words_all k vars es + need_all needs k vars es)
  need needs k vars (FieldsTree s es) = node_need k vars (FieldsTree s es) + (words_named k vars es + need_named needs k vars es)
  need needs k vars (DotTree s e x) = node_need k vars (DotTree s e x) + (words_at k vars e + need needs k vars e)
  need needs k vars (InvertTree s e) = node_need k vars (InvertTree s e) + (words_at k vars e + need needs k vars e)
  need needs k vars (NegateTree s e) = node_need k vars (NegateTree s e) + (words_at k vars e + need needs k vars e)
  need needs k vars (BinaryTree s op a b) = node_need k vars (BinaryTree s op a b) + ((words_at k vars a + words_at k vars b) + max (need needs k vars a) (need needs k vars b))
  need needs k vars (ShiftTree s op e n) = node_need k vars (ShiftTree s op e n) + (words_at k vars e + need needs k vars e)
  need needs k vars (CallTree s f es) = node_need k vars (CallTree s f es) + (words_all k vars es + max (value_at 0 f needs) (need_all needs k vars es))
  need needs k vars (UnpackTree s l e) = node_need k vars (UnpackTree s l e) + (words_at k vars e + need needs k vars e)
  need needs k vars (PackTree s l e) = node_need k vars (PackTree s l e) + (words_at k vars e + need needs k vars e)
  need needs k vars (RaiseTree s x es) = node_need k vars (RaiseTree s x es) + (words_all k vars es + need_all needs k vars es)
  need needs k vars (IfTree s c a b) = node_need k vars (IfTree s c a b) + ((words_at k vars c + (words_at k vars a + words_at k vars b)) + max (need needs k vars c) (max (need needs k vars a) (need needs k vars b)))
  need needs k vars (TryTree s a x ps h) =
      let inner = handler_vars k vars x ps in
      node_need k vars (TryTree s a x ps h) + (raised_words (look_up x k.exceptions) + ((words_at k vars a + words_at k inner h) + max (need needs k vars a) (need needs k inner h)))
  need needs k vars (FetchTree s m n a) = node_need k vars (FetchTree s m n a) + (words_at k vars a + need needs k vars a)
  need needs k vars (BlockTree s sts e) =
      2 + max (need_statements needs k vars [] sts (variables e)) (pending (lets_behind k vars sts) (variables e) + need needs k (vars_behind k vars sts) e)

  -- the greatest need of some parts
  pub need_all : GroupNumbers → Known → Vars → Trees → ℕ
  need_all needs k vars no_trees = 0
  need_all needs k vars (tree_and e es) = max (need needs k vars e) (need_all needs k vars es)

  pub need_named : GroupNumbers → Known → Vars → NamedTrees → ℕ
  need_named needs k vars no_named_trees = 0
  need_named needs k vars (named_tree_and x e es) = max (need needs k vars e) (need_named needs k vars es)

  pub need_statement : GroupNumbers → Known → Vars → StatementTree → ℕ
  need_statement needs k vars (LetStatement s p e) = words_at k vars e + need needs k vars e
  need_statement needs k vars (StoreStatement s m a e) = 2 + ((words_at k vars a + words_at k vars e) + max (need needs k vars a) (need needs k vars e))

  -- the greatest need of some statements of a block after these lets, where these variables are written in its tail: of each its own, and the words of the lets that are still wanted in it or after it
  pub need_statements : GroupNumbers → Known → Vars → Lets → StatementTrees → List (List ℕ) → ℕ
  need_statements needs k vars lets no_statements written = 0
  need_statements needs k vars lets (statement_and st sts) written =
      max (pending lets (variables_statement st ++ (variables_statements sts ++ written)) + need_statement needs k vars st)
      (need_statements needs k (vars_after k vars st) (lets ++ let_of k vars st) sts written)

-- of a group: the greatest of its functions, of the words of the parameters and the need of the body
abbrev pub group_need : GroupNumbers → Known → List FunTree → ℕ
group_need needs k [] = 0
group_need needs k (f ∷ fs) = max (param_words k f + need needs k (body_vars k f) f.body) (group_need needs k fs)

-- of all groups in order
abbrev pub needs_behind : GroupNumbers → Known → List DeclTree → GroupNumbers
needs_behind needs k [] = needs
needs_behind needs k (LayoutDecl x l s ∷ ds) = needs_behind needs (known_after k (LayoutDecl x l s)) ds
needs_behind needs k (ExceptionDecl x ts s ∷ ds) = needs_behind needs (known_after k (ExceptionDecl x ts s)) ds
needs_behind needs k (GroupDecl fs ∷ ds) = needs_behind (needs ++ numbered (group_need needs (in_group k fs) fs) fs) (known_after k (GroupDecl fs)) ds

-- the need of main's group and 8
abbrev pub room : ProgramTree → ℕ
room p = value_at 0 main_name (needs_behind [] nothing_known p.decls) + 8

-- ---- the words of main's parameters
abbrev pub signature_words : Option Signature → ℕ
signature_words None = 0
signature_words (Some g) = total_named_words g.params

abbrev pub main_words : ProgramTree → ℕ
main_words p = signature_words (look_up main_name (known_behind nothing_known p.decls).functions)
