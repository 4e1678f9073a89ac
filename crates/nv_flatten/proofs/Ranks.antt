-- What the walk's recursion goes down by: the text, and for the functions of one expression the order in which they call one another.
use Rattle.std.proofs.Common.{◌≡◌, ℕ, ◌+◌, ◌<◌, true, false, not, sym, arith}
use Rattle.nv_ast.specs.Tree.{Tree, BinaryTree, NumberTree, TruthTree, VarTree, ParenTree, TupleTree, FieldsTree, DotTree, InvertTree, NegateTree, ShiftTree, CallTree, UnpackTree, PackTree, RaiseTree, IfTree, TryTree, FetchTree, BlockTree}
use Rattle.nv_flatten_values.specs.declared.parts.Ends.{Ends}
use Rattle.nv_flatten_values.specs.declared.parts.Ends.TheVariants as ends
use Rattle.nv_flatten_values.specs.inner.Arms.{is_named}
use Rattle.nv_flatten_values.specs.inner.Code.{ends_of, gives, tests, is_given, is_comparison}

-- a value is made by its own function, or by way of code that ends with its words: a comparison's, or another's
abbrev value_by : Ends → ℕ
value_by ends.Value = 1
value_by ends.Test = 5
value_by ends.Both = 3
value_by ends.Either = 3

abbrev pub value_rank : Tree → ℕ
value_rank (BinaryTree s op a b) = value_by (ends_of op)
value_rank (CallTree s f es) = 3
value_rank (RaiseTree s x es) = 3
value_rank (IfTree s c a b) = 3
value_rank (TryTree s a x ps h) = 3
value_rank _ = 1

-- the end of code: the value's steps, a comparison, or its own function
abbrev ending_by : Ends → ℕ
ending_by ends.Value = 3
ending_by ends.Test = 3
ending_by ends.Both = 1
ending_by ends.Either = 1

abbrev pub ending_rank : Tree → ℕ
ending_rank (BinaryTree s op a b) = ending_by (ends_of op)
ending_rank (CallTree s f es) = 1
ending_rank (RaiseTree s x es) = 1
ending_rank (IfTree s c a b) = 1
ending_rank (TryTree s a x ps h) = 1
ending_rank _ = 3

-- a condition: a comparison, or the value
abbrev condition_by : Ends → ℕ
condition_by ends.Value = 3
condition_by ends.Test = 1
condition_by ends.Both = 5
condition_by ends.Either = 5

abbrev pub condition_rank : Tree → ℕ
condition_rank (BinaryTree s op a b) = condition_by (ends_of op)
condition_rank (CallTree s f es) = 5
condition_rank (RaiseTree s x es) = 5
condition_rank (IfTree s c a b) = 5
condition_rank (TryTree s a x ps h) = 5
condition_rank _ = 3

-- ---- all are small

value_by-small : (n : Ends) → value_by n < 6
value_by-small ends.Value = omega arith
value_by-small ends.Test = omega arith
value_by-small ends.Both = omega arith
value_by-small ends.Either = omega arith

pub value_rank-small : (e : Tree) → value_rank e < 6
value_rank-small (BinaryTree s op a b) = value_by-small (ends_of op)
value_rank-small (NumberTree s n) = omega arith
value_rank-small (TruthTree s b) = omega arith
value_rank-small (VarTree s x) = omega arith
value_rank-small (ParenTree s e) = omega arith
value_rank-small (TupleTree s es) = omega arith
value_rank-small (FieldsTree s es) = omega arith
value_rank-small (DotTree s e x) = omega arith
value_rank-small (InvertTree s e) = omega arith
value_rank-small (NegateTree s e) = omega arith
value_rank-small (ShiftTree s op e n) = omega arith
value_rank-small (CallTree s f es) = omega arith
value_rank-small (UnpackTree s l e) = omega arith
value_rank-small (PackTree s l e) = omega arith
value_rank-small (RaiseTree s x es) = omega arith
value_rank-small (IfTree s c a b) = omega arith
value_rank-small (TryTree s a x ps h) = omega arith
value_rank-small (FetchTree s m n e) = omega arith
value_rank-small (BlockTree s sts e) = omega arith

ending_by-small : (n : Ends) → ending_by n < 4
ending_by-small ends.Value = omega arith
ending_by-small ends.Test = omega arith
ending_by-small ends.Both = omega arith
ending_by-small ends.Either = omega arith

pub ending_rank-small : (e : Tree) → ending_rank e < 4
ending_rank-small (BinaryTree s op a b) = ending_by-small (ends_of op)
ending_rank-small (NumberTree s n) = omega arith
ending_rank-small (TruthTree s b) = omega arith
ending_rank-small (VarTree s x) = omega arith
ending_rank-small (ParenTree s e) = omega arith
ending_rank-small (TupleTree s es) = omega arith
ending_rank-small (FieldsTree s es) = omega arith
ending_rank-small (DotTree s e x) = omega arith
ending_rank-small (InvertTree s e) = omega arith
ending_rank-small (NegateTree s e) = omega arith
ending_rank-small (ShiftTree s op e n) = omega arith
ending_rank-small (CallTree s f es) = omega arith
ending_rank-small (UnpackTree s l e) = omega arith
ending_rank-small (PackTree s l e) = omega arith
ending_rank-small (RaiseTree s x es) = omega arith
ending_rank-small (IfTree s c a b) = omega arith
ending_rank-small (TryTree s a x ps h) = omega arith
ending_rank-small (FetchTree s m n e) = omega arith
ending_rank-small (BlockTree s sts e) = omega arith

condition_by-small : (n : Ends) → condition_by n < 6
condition_by-small ends.Value = omega arith
condition_by-small ends.Test = omega arith
condition_by-small ends.Both = omega arith
condition_by-small ends.Either = omega arith

pub condition_rank-small : (e : Tree) → condition_rank e < 6
condition_rank-small (BinaryTree s op a b) = condition_by-small (ends_of op)
condition_rank-small (NumberTree s n) = omega arith
condition_rank-small (TruthTree s b) = omega arith
condition_rank-small (VarTree s x) = omega arith
condition_rank-small (ParenTree s e) = omega arith
condition_rank-small (TupleTree s es) = omega arith
condition_rank-small (FieldsTree s es) = omega arith
condition_rank-small (DotTree s e x) = omega arith
condition_rank-small (InvertTree s e) = omega arith
condition_rank-small (NegateTree s e) = omega arith
condition_rank-small (ShiftTree s op e n) = omega arith
condition_rank-small (CallTree s f es) = omega arith
condition_rank-small (UnpackTree s l e) = omega arith
condition_rank-small (PackTree s l e) = omega arith
condition_rank-small (RaiseTree s x es) = omega arith
condition_rank-small (IfTree s c a b) = omega arith
condition_rank-small (TryTree s a x ps h) = omega arith
condition_rank-small (FetchTree s m n e) = omega arith
condition_rank-small (BlockTree s sts e) = omega arith

-- ---- which calls which

apart : false ≡ true → ⊥
apart e = cc

-- an expression whose words get names calls its end
named-below-ends : (n : Ends) → not (gives n) ≡ true → ending_by n + 1 < value_by n
named-below-ends ends.Value h = absurd (apart h)
named-below-ends ends.Test h = omega arith
named-below-ends ends.Both h = omega arith
named-below-ends ends.Either h = omega arith

pub named-below : (e : Tree) → is_named e ≡ true → ending_rank e + 1 < value_rank e
named-below (BinaryTree s op a b) h = named-below-ends (ends_of op) h
named-below (NumberTree s n) h = absurd (apart h)
named-below (TruthTree s b) h = absurd (apart h)
named-below (VarTree s x) h = absurd (apart h)
named-below (ParenTree s e) h = absurd (apart h)
named-below (TupleTree s es) h = absurd (apart h)
named-below (FieldsTree s es) h = absurd (apart h)
named-below (DotTree s e x) h = absurd (apart h)
named-below (InvertTree s e) h = absurd (apart h)
named-below (NegateTree s e) h = absurd (apart h)
named-below (ShiftTree s op e n) h = absurd (apart h)
named-below (CallTree s f es) h = omega arith
named-below (UnpackTree s l e) h = absurd (apart h)
named-below (PackTree s l e) h = absurd (apart h)
named-below (RaiseTree s x es) h = omega arith
named-below (IfTree s c a b) h = omega arith
named-below (TryTree s a x ps e) h = omega arith
named-below (FetchTree s m n e) h = absurd (apart h)
named-below (BlockTree s sts e) h = absurd (apart h)

-- a condition that is no comparison calls its value
truth-below-ends : (n : Ends) → tests n ≡ false → value_by n + 1 < condition_by n
truth-below-ends ends.Value h = omega arith
truth-below-ends ends.Test h = absurd (apart (sym h))
truth-below-ends ends.Both h = omega arith
truth-below-ends ends.Either h = omega arith

pub truth-below : (e : Tree) → is_comparison e ≡ false → value_rank e + 1 < condition_rank e
truth-below (BinaryTree s op a b) h = truth-below-ends (ends_of op) h
truth-below (NumberTree s n) h = omega arith
truth-below (TruthTree s b) h = omega arith
truth-below (VarTree s x) h = omega arith
truth-below (ParenTree s e) h = omega arith
truth-below (TupleTree s es) h = omega arith
truth-below (FieldsTree s es) h = omega arith
truth-below (DotTree s e x) h = omega arith
truth-below (InvertTree s e) h = omega arith
truth-below (NegateTree s e) h = omega arith
truth-below (ShiftTree s op e n) h = omega arith
truth-below (CallTree s f es) h = omega arith
truth-below (UnpackTree s l e) h = omega arith
truth-below (PackTree s l e) h = omega arith
truth-below (RaiseTree s x es) h = omega arith
truth-below (IfTree s c a b) h = omega arith
truth-below (TryTree s a x ps e) h = omega arith
truth-below (FetchTree s m n e) h = omega arith
truth-below (BlockTree s sts e) h = omega arith

-- the end of what steps give calls its value
given-below-ends : (n : Ends) → gives n ≡ true → value_by n + 1 < ending_by n
given-below-ends ends.Value h = omega arith
given-below-ends ends.Test h = absurd (apart h)
given-below-ends ends.Both h = absurd (apart h)
given-below-ends ends.Either h = absurd (apart h)

pub given-below : (e : Tree) → is_given e ≡ true → value_rank e + 1 < ending_rank e
given-below (BinaryTree s op a b) h = given-below-ends (ends_of op) h
given-below (NumberTree s n) h = omega arith
given-below (TruthTree s b) h = omega arith
given-below (VarTree s x) h = omega arith
given-below (ParenTree s e) h = absurd (apart h)
given-below (TupleTree s es) h = omega arith
given-below (FieldsTree s es) h = omega arith
given-below (DotTree s e x) h = omega arith
given-below (InvertTree s e) h = omega arith
given-below (NegateTree s e) h = omega arith
given-below (ShiftTree s op e n) h = omega arith
given-below (CallTree s f es) h = absurd (apart h)
given-below (UnpackTree s l e) h = omega arith
given-below (PackTree s l e) h = omega arith
given-below (RaiseTree s x es) h = absurd (apart h)
given-below (IfTree s c a b) h = absurd (apart h)
given-below (TryTree s a x ps e) h = absurd (apart h)
given-below (FetchTree s m n e) h = omega arith
given-below (BlockTree s sts e) h = absurd (apart h)

-- the end of a comparison calls its condition
decided-below-ends : (n : Ends) → tests n ≡ true → condition_by n + 1 < ending_by n
decided-below-ends ends.Value h = absurd (apart h)
decided-below-ends ends.Test h = omega arith
decided-below-ends ends.Both h = absurd (apart h)
decided-below-ends ends.Either h = absurd (apart h)

pub decided-below : (e : Tree) → is_comparison e ≡ true → condition_rank e + 1 < ending_rank e
decided-below (BinaryTree s op a b) h = decided-below-ends (ends_of op) h
decided-below (NumberTree s n) h = absurd (apart h)
decided-below (TruthTree s b) h = absurd (apart h)
decided-below (VarTree s x) h = absurd (apart h)
decided-below (ParenTree s e) h = absurd (apart h)
decided-below (TupleTree s es) h = absurd (apart h)
decided-below (FieldsTree s es) h = absurd (apart h)
decided-below (DotTree s e x) h = absurd (apart h)
decided-below (InvertTree s e) h = absurd (apart h)
decided-below (NegateTree s e) h = absurd (apart h)
decided-below (ShiftTree s op e n) h = absurd (apart h)
decided-below (CallTree s f es) h = absurd (apart h)
decided-below (UnpackTree s l e) h = absurd (apart h)
decided-below (PackTree s l e) h = absurd (apart h)
decided-below (RaiseTree s x es) h = absurd (apart h)
decided-below (IfTree s c a b) h = absurd (apart h)
decided-below (TryTree s a x ps e) h = absurd (apart h)
decided-below (FetchTree s m n e) h = absurd (apart h)
decided-below (BlockTree s sts e) h = absurd (apart h)
