-- The type of an expression among some variables, or none where it has no value.
-- Where a name, call, dot or layout isn't known there is no type either; the fault lies there then, and what follows doesn't matter.
use Rattle.std.specs.Prelude.{ℕ, List, [], ◌∷◌, Option, Some, None, option_map}
use Rattle.nv_ast.specs.declared.tree.Op.{Op}
use Rattle.nv_ast.specs.declared.tree.Op.TheVariants.{Add, Sub, And, Or, Xor, Both, Either}
use Rattle.nv_ast.specs.Tree.{Tree, NumberTree, TruthTree, VarTree, ParenTree, TupleTree, FieldsTree, DotTree, InvertTree, NegateTree, BinaryTree, ShiftTree, CallTree, UnpackTree, PackTree, RaiseTree, IfTree, TryTree, FetchTree, BlockTree, Trees, no_trees, tree_and, NamedTrees, no_named_trees, named_tree_and, StatementTree, LetStatement, StoreStatement, StatementTrees, no_statements, statement_and}
use Rattle.nv_ast.specs.Tests.{look_up}
use Rattle.nv_ast.specs.Types.{Ty, WordTy, BoolTy, TupleTy, RecordTy, Tys, no_tys, ty_and, NamedTys, no_named_tys, named_ty_and, words_ty, packed_ty, unpacked_ty}
use Rattle.nv_ast.specs.Scope.{Known, callable, Vars, bind_value, bind_raised}

-- the fields of a record in a list
abbrev pub fields_of : NamedTys → List (List ℕ × Ty)
fields_of no_named_tys = []
fields_of (named_ty_and x t ts) = (x, t) ∷ fields_of ts

-- the type of a field, if the type is a record with such a field
abbrev pub field_ty : List ℕ → Option Ty → Option Ty
field_ty x (Some (RecordTy ts)) = look_up x (fields_of ts)
field_ty x _ = None

-- a tuple's or record's types with one more in front, where all have a value
abbrev pub and_ty : Option Ty → Option Tys → Option Tys
and_ty (Some t) (Some ts) = Some (ty_and t ts)
and_ty _ _ = None

abbrev pub and_named_ty : List ℕ → Option Ty → Option NamedTys → Option NamedTys
and_named_ty x (Some t) (Some ts) = Some (named_ty_and x t ts)
and_named_ty x _ _ = None

-- the type of the first of two parts that has a value
abbrev pub or_ty : Option Ty → Option Ty → Option Ty
or_ty None u = u
or_ty (Some t) u = Some t

-- the operands' type and the result's type of an operator
abbrev pub operand_ty : Op → Ty
operand_ty Both = BoolTy
operand_ty Either = BoolTy
operand_ty _ = WordTy

abbrev pub result_ty : Op → Ty
result_ty Add = WordTy
result_ty Sub = WordTy
result_ty And = WordTy
result_ty Or = WordTy
result_ty Xor = WordTy
result_ty _ = BoolTy

abbrev mutual
  pub type_at : Known → Vars → Tree → Option Ty
  type_at k vars (NumberTree s n) = Some WordTy
  type_at k vars (TruthTree s b) = Some BoolTy
  type_at k vars (VarTree s x) = look_up x vars
  type_at k vars (ParenTree s e) = type_at k vars e
  type_at k vars (TupleTree s es) = option_map TupleTy (types_at k vars es)
  type_at k vars (FieldsTree s es) = option_map RecordTy (named_types_at k vars es)
  type_at k vars (DotTree s e x) = field_ty x (type_at k vars e)
  type_at k vars (InvertTree s e) = Some WordTy
  type_at k vars (NegateTree s e) = Some BoolTy
  type_at k vars (BinaryTree s op a b) = Some (result_ty op)
  type_at k vars (ShiftTree s op e n) = Some WordTy
  type_at k vars (CallTree s f es) = option_map (λ g. g.result) (look_up f (callable k))
  type_at k vars (UnpackTree s l e) = option_map unpacked_ty (look_up l k.layouts)
  type_at k vars (PackTree s l e) = option_map packed_ty (look_up l k.layouts)
  type_at k vars (RaiseTree s x es) = None
  type_at k vars (IfTree s c a b) = or_ty (type_at k vars a) (type_at k vars b)
  type_at k vars (TryTree s a x ps h) = or_ty (type_at k vars a) (type_at k (bind_raised ps (look_up x k.exceptions) vars) h)
  type_at k vars (FetchTree s m n e) = Some (words_ty n)
  type_at k vars (BlockTree s sts e) = type_at k (vars_behind k vars sts) e

  pub types_at : Known → Vars → Trees → Option Tys
  types_at k vars no_trees = Some no_tys
  types_at k vars (tree_and e es) = and_ty (type_at k vars e) (types_at k vars es)

  pub named_types_at : Known → Vars → NamedTrees → Option NamedTys
  named_types_at k vars no_named_trees = Some no_named_tys
  named_types_at k vars (named_tree_and x e es) = and_named_ty x (type_at k vars e) (named_types_at k vars es)

  -- the variables after a statement: those of a let's pattern hide earlier ones
  pub vars_after : Known → Vars → StatementTree → Vars
  vars_after k vars (LetStatement s p e) = bind_value p (type_at k vars e) vars
  vars_after k vars (StoreStatement s m a e) = vars

  pub vars_behind : Known → Vars → StatementTrees → Vars
  vars_behind k vars no_statements = vars
  vars_behind k vars (statement_and st sts) = vars_behind k (vars_after k vars st) sts
