-- An expression without a fault of which a value is wanted has one.
use Rattle.std.proofs.Common.{◌≡◌, ◌∙◌, refl, ap, sym, ℕ, Bool, true, List, [], ◌∷◌, ◌++◌, append_assoc, Option, None, Some}
use Rattle.nv_ast.specs.Tree.{Tree, NumberTree, TruthTree, VarTree, ParenTree, TupleTree, FieldsTree, DotTree, InvertTree, NegateTree, BinaryTree, ShiftTree, CallTree, UnpackTree, PackTree, RaiseTree, IfTree, TryTree, FetchTree, BlockTree, span_of}
use Rattle.nv_ast.specs.Scope.{Context, inside, with_vars, bind_raised}
use Rattle.nv_ast.specs.Types.{Ty, BoolTy}
use Rattle.nv_ast.specs.Typing.{type_at, operand_ty, vars_behind}
use Rattle.nv_ast.specs.Tests.{look_up, where_true}
use Rattle.nv_ast.specs.Faults.{Fault as FaultAt, Expected as ExpectedTree, at_span, anything, of_type, same_as, faults, statements_faults, node_faults, low_kinds, middle_kinds, other_type, no_value, too_large_value, raised_kinds}
use Rattle.nv_ast.proofs.Faultless.{no_kinds, no_rest, no_front}

-- some faults and then a node's
abbrev EndsIn : List FaultAt → List FaultAt → Type 0
EndsIn all own = (before : List FaultAt) × (all ≡ before ++ own)

two : (a b own : List FaultAt) → EndsIn (a ++ (b ++ own)) own
two a b own = (a ++ b, sym (append_assoc a b own))

three : (a b c own : List FaultAt) → EndsIn (a ++ (b ++ (c ++ own))) own
three a b c own = (a ++ (b ++ c), ap (λ l. a ++ l) (sym (append_assoc b c own)) ∙ sym (append_assoc a (b ++ c) own))

pub ends_in_own : (p : Context) (w : ExpectedTree) (e : Tree) → (before : List FaultAt) × (faults p w e ≡ before ++ node_faults p w e)
ends_in_own p w (NumberTree s n) = ([], refl)
ends_in_own p w (TruthTree s b) = ([], refl)
ends_in_own p w (VarTree s x) = ([], refl)
ends_in_own p w (ParenTree s e) = (_, refl)
ends_in_own p w (TupleTree s es) = (_, refl)
ends_in_own p w (FieldsTree s es) = (_, refl)
ends_in_own p w (DotTree s e x) = (_, refl)
ends_in_own p w (InvertTree s e) = (_, refl)
ends_in_own p w (NegateTree s e) = (_, refl)
ends_in_own p w (BinaryTree s op a b) = two (faults (inside p) (of_type (operand_ty op)) a) (faults (inside p) (of_type (operand_ty op)) b) (node_faults p w (BinaryTree s op a b))
ends_in_own p w (ShiftTree s op e n) = (_, refl)
ends_in_own p w (CallTree s f es) = (_, refl)
ends_in_own p w (UnpackTree s l e) = (_, refl)
ends_in_own p w (PackTree s l e) = (_, refl)
ends_in_own p w (RaiseTree s x es) = (_, refl)
ends_in_own p w (IfTree s c a b) = three (faults (inside p) (of_type BoolTy) c) (faults p anything a) (faults p (same_as (type_at p.known p.vars a)) b) (node_faults p w (IfTree s c a b))
ends_in_own p w (TryTree s a x ps h) =
    three (faults (inside p) anything a) (at_span s (raised_kinds p.known x ps)) (faults (with_vars (bind_raised ps (look_up x p.known.exceptions) p.vars) p) (same_as (type_at p.known p.vars a)) h)
    (node_faults p w (TryTree s a x ps h))
ends_in_own p w (FetchTree s m n a) = (_, refl)
ends_in_own p w (BlockTree s sts e) = two (statements_faults (inside p) sts) (faults (with_vars (vars_behind p.known p.vars sts) p) anything e) (node_faults p w (BlockTree s sts e))

valued_by : (w : ExpectedTree) (t : Option Ty) → w.value ≡ true → no_value w t ≡ [] → (u : Ty) × (t ≡ Some u)
valued_by w (Some u) wants h = (u, refl)
valued_by w None wants h = absurd (one_none 22 (sym (ap (λ (b : Bool). where_true {A = ℕ} b 22) wants) ∙ h))
  where
    one_none : (n : ℕ) → n ∷ [] ≡ [] → ⊥
    one_none n q = cc

pub has_value : (p : Context) (w : ExpectedTree) (e : Tree) → w.value ≡ true → faults p w e ≡ [] → (u : Ty) × (type_at p.known p.vars e ≡ Some u)
has_value p w e wants clean =
    let t = type_at p.known p.vars e in
    let ends = ends_in_own p w e in
    let own = no_rest ends.0 (node_faults p w e) (sym ends.1 ∙ clean) in
    let kinds = no_kinds (span_of e) (low_kinds p e ++ (other_type w t ++ (middle_kinds p e ++ (no_value w t ++ too_large_value t)))) own in
    let behind_low = no_rest (low_kinds p e) (other_type w t ++ (middle_kinds p e ++ (no_value w t ++ too_large_value t))) kinds in
    let behind_type = no_rest (other_type w t) (middle_kinds p e ++ (no_value w t ++ too_large_value t)) behind_low in
    let behind_middle = no_rest (middle_kinds p e) (no_value w t ++ too_large_value t) behind_type in
    valued_by w t wants (no_front (no_value w t) (too_large_value t) behind_middle)
