-- Which expressions are done in which way.
use Rattle.std.proofs.Common.{◌≡◌, true, false, refl}
use Rattle.std.proofs.lemmas.Bool.{not-true}
use Rattle.nv_ast.specs.declared.tree.Op.{Op}
use Rattle.nv_ast.specs.declared.tree.Op.TheVariants.{Add, Sub, And, Or, Xor, Eq, Ne, Lt, Le, Gt, Ge, Both, Either}
use Rattle.nv_ast.specs.Tree.{Tree, NumberTree, TruthTree, VarTree, ParenTree, TupleTree, FieldsTree, DotTree, InvertTree, NegateTree, BinaryTree, ShiftTree, CallTree, UnpackTree, PackTree, RaiseTree, IfTree, TryTree, FetchTree, BlockTree}
use Rattle.nv_flatten_values.specs.declared.parts.Ends.TheVariants as ends
use Rattle.nv_flatten_values.specs.inner.Arms.{is_named}
use Rattle.nv_flatten_values.specs.inner.Code.{ends_of, gives, is_given}
use Rattle.nv_flatten_values.specs.inner.Symbols.{Symbol}
use Rattle.nv_flatten_values.specs.inner.Well.{IsLiteral}

-- ---- the operators that end as themselves
pub both-op : (op : Op) → ends_of op ≡ ends.Both → op ≡ Both
both-op Both e = refl
both-op Either e = cc
both-op Add e = cc
both-op Sub e = cc
both-op And e = cc
both-op Or e = cc
both-op Xor e = cc
both-op Eq e = cc
both-op Ne e = cc
both-op Lt e = cc
both-op Le e = cc
both-op Gt e = cc
both-op Ge e = cc

pub either-op : (op : Op) → ends_of op ≡ ends.Either → op ≡ Either
either-op Either e = refl
either-op Both e = cc
either-op Add e = cc
either-op Sub e = cc
either-op And e = cc
either-op Or e = cc
either-op Xor e = cc
either-op Eq e = cc
either-op Ne e = cc
either-op Lt e = cc
either-op Le e = cc
either-op Gt e = cc
either-op Ge e = cc

-- ---- what gets names isn't given by its steps, and no number

pub named-given : (e : Tree) → is_named e ≡ true → is_given e ≡ false
named-given (BinaryTree s op a b) h = not-true (gives (ends_of op)) h
named-given (CallTree s f es) h = refl
named-given (RaiseTree s x es) h = refl
named-given (IfTree s c a b) h = refl
named-given (TryTree s a x ps e) h = refl
named-given (NumberTree s n) h = cc
named-given (TruthTree s b) h = cc
named-given (VarTree s x) h = cc
named-given (ParenTree s e) h = cc
named-given (TupleTree s es) h = cc
named-given (FieldsTree s es) h = cc
named-given (DotTree s e x) h = cc
named-given (InvertTree s e) h = cc
named-given (NegateTree s e) h = cc
named-given (ShiftTree s op e n) h = cc
named-given (UnpackTree s l e) h = cc
named-given (PackTree s l e) h = cc
named-given (FetchTree s m n e) h = cc
named-given (BlockTree s sts e) h = cc

pub named-literal : (e : Tree) (v : Symbol) → is_named e ≡ true → IsLiteral e v
named-literal (BinaryTree s op a b) v h = tt
named-literal (CallTree s f es) v h = tt
named-literal (RaiseTree s x es) v h = tt
named-literal (IfTree s c a b) v h = tt
named-literal (TryTree s a x ps e) v h = tt
named-literal (NumberTree s n) v h = absurd (none h)
  where
    none : false ≡ true → ⊥
    none e = cc
named-literal (TruthTree s b) v h = tt
named-literal (VarTree s x) v h = tt
named-literal (ParenTree s e) v h = tt
named-literal (TupleTree s es) v h = tt
named-literal (FieldsTree s es) v h = tt
named-literal (DotTree s e x) v h = tt
named-literal (InvertTree s e) v h = tt
named-literal (NegateTree s e) v h = tt
named-literal (ShiftTree s op e n) v h = tt
named-literal (UnpackTree s l e) v h = tt
named-literal (PackTree s l e) v h = tt
named-literal (FetchTree s m n e) v h = tt
named-literal (BlockTree s sts e) v h = tt
