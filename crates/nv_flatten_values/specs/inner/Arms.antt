-- Which expressions are done in which way.
use Rattle.std.specs.Prelude.{◌≡◌, Bool, true, false, not, Some}
use Rattle.nv_ast.specs.declared.token.Span.{Span}
use Rattle.nv_ast.specs.declared.tree.Op.{Op}
use Rattle.nv_ast.specs.declared.tree.Op.TheVariants as op
use Rattle.nv_ast.specs.ExprView.{tree_of, list_trees, list_named_trees, list_statements}
use Rattle.nv_ast.specs.PatternView.{list_patterns}
use Rattle.nv_ast.specs.Tree.{Tree, NumberTree, TruthTree, VarTree, ParenTree, TupleTree, FieldsTree, DotTree, InvertTree, NegateTree, BinaryTree, ShiftTree, CallTree, UnpackTree, PackTree, RaiseTree, IfTree, TryTree, FetchTree, BlockTree}
use Rattle.nv_flatten_values.specs.declared.arms.ValueArm.{ValueArm}
use Rattle.nv_flatten_values.specs.declared.arms.ValueArm.TheVariants as value
use Rattle.nv_flatten_values.specs.declared.arms.TestArm.{TestArm}
use Rattle.nv_flatten_values.specs.declared.arms.TestArm.TheVariants as test
use Rattle.nv_flatten_values.specs.declared.arms.EndArm.{EndArm}
use Rattle.nv_flatten_values.specs.declared.arms.EndArm.TheVariants as end
use Rattle.nv_flatten_values.specs.inner.Code.{arithmetic_of, comparison_of, ends_of, gives, is_given, is_comparison}

-- expressions that choose, call or raise, whose words get names
abbrev pub is_named : Tree → Bool
is_named (BinaryTree s op a b) = not (gives (ends_of op))
is_named (CallTree s f es) = true
is_named (RaiseTree s x es) = true
is_named (IfTree s c a b) = true
is_named (TryTree s a x ps h) = true
is_named _ = false

abbrev pub ValueBy : Tree → ValueArm → Type 0
ValueBy t (value.Number n) = (s : Span) × (t ≡ NumberTree s n)
ValueBy t (value.Truth b) = (s : Span) × (t ≡ TruthTree s b)
ValueBy t (value.Var x) = (s : Span) × (t ≡ VarTree s x.now)
ValueBy t (value.Paren a) = (s : Span) × (t ≡ ParenTree s (tree_of a.now))
ValueBy t (value.Tuple es) = (s : Span) × (t ≡ TupleTree s (list_trees es.now))
ValueBy t (value.Fields es) = (s : Span) × (t ≡ FieldsTree s (list_named_trees es.now))
ValueBy t (value.Dot a x) = (s : Span) × (t ≡ DotTree s (tree_of a.now) x.now)
ValueBy t (value.Invert a) = (s : Span) × (t ≡ InvertTree s (tree_of a.now))
ValueBy t (value.Negate a) = (s : Span) × (t ≡ NegateTree s (tree_of a.now))
ValueBy t (value.Shift o a n) = (s : Span) × (t ≡ ShiftTree s o (tree_of a.now) n)
ValueBy t (value.Combine bin a b) = (s : Span) × (o : Op) × (arithmetic_of o ≡ Some bin) × (t ≡ BinaryTree s o (tree_of a.now) (tree_of b.now))
ValueBy t (value.Unpack l a) = (s : Span) × (t ≡ UnpackTree s l.now (tree_of a.now))
ValueBy t (value.Pack l a) = (s : Span) × (t ≡ PackTree s l.now (tree_of a.now))
ValueBy t (value.Fetch m n a) = (s : Span) × (t ≡ FetchTree s m n (tree_of a.now))
ValueBy t (value.Block sts a) = (s : Span) × (t ≡ BlockTree s (list_statements sts.now) (tree_of a.now))
ValueBy t value.Named = is_named t ≡ true

-- in brackets or negated
abbrev pub is_wrapped : Tree → Bool
is_wrapped (ParenTree s a) = true
is_wrapped (NegateTree s a) = true
is_wrapped _ = false

abbrev pub TestBy : Tree → TestArm → Type 0
TestBy t (test.Paren a) = (s : Span) × (t ≡ ParenTree s (tree_of a.now))
TestBy t (test.Negate a) = (s : Span) × (t ≡ NegateTree s (tree_of a.now))
TestBy t (test.Compare cmp swapped a b) = (s : Span) × (o : Op) × (comparison_of o ≡ Some (cmp, swapped)) × (t ≡ BinaryTree s o (tree_of a.now) (tree_of b.now))
TestBy t test.Truth = (is_wrapped t ≡ false) × (is_comparison t ≡ false)

abbrev pub EndBy : Tree → EndArm → Type 0
EndBy t (end.Paren a) = (s : Span) × (t ≡ ParenTree s (tree_of a.now))
EndBy t end.Given = is_given t ≡ true
EndBy t end.Decided = is_comparison t ≡ true
EndBy t (end.Both a b) = (s : Span) × (t ≡ BinaryTree s op.Both (tree_of a.now) (tree_of b.now))
EndBy t (end.Either a b) = (s : Span) × (t ≡ BinaryTree s op.Either (tree_of a.now) (tree_of b.now))
EndBy t (end.Call f es) = (s : Span) × (t ≡ CallTree s f.now (list_trees es.now))
EndBy t (end.Raise x es) = (s : Span) × (t ≡ RaiseTree s x.now (list_trees es.now))
EndBy t (end.Choose c a b) = (s : Span) × (t ≡ IfTree s (tree_of c.now) (tree_of a.now) (tree_of b.now))
EndBy t (end.Try a x ps h) = (s : Span) × (t ≡ TryTree s (tree_of a.now) x.now (list_patterns ps.now) (tree_of h.now))
EndBy t (end.Block sts a) = (s : Span) × (t ≡ BlockTree s (list_statements sts.now) (tree_of a.now))
