-- The arms of the walk over an expression that have one or two parts.
use Rattle.std.proofs.Common.{◌≡◌, ◌∙◌, refl, ap, sym, subst, ℕ, ◌+◌, max, nat_lt, Bool, false, [], ◌++◌, append_assoc, append-nil, Option, None, Some, Result, Ok, Err}
use Rattle.std.specs.Result.{IfOk}
use Rattle.std.specs.Prelude.{option_to_list}
use Rattle.nv_ast.specs.declared.token.Span.{Span}
use Rattle.nv_ast.specs.declared.tree.Op.{Op}
use Rattle.nv_ast.specs.declared.tree.ShiftOp.{ShiftOp}
use Rattle.nv_ast.specs.Tree.{Tree, NumberTree, TruthTree, ParenTree, InvertTree, NegateTree, BinaryTree, ShiftTree}
use Rattle.nv_ast.specs.Scope.{Known, Vars}
use Rattle.nv_ast.specs.Types.{Ty, WordTy, BoolTy, words_of_value}
use Rattle.nv_ast.specs.Typing.{type_at, operand_ty, result_ty}
use Rattle.nv_ast.specs.Tests.{where_true}
use Rattle.nv_ast.specs.Faults.{Expected as ExpectedTree, a_value, of_type, faults, node_faults, low_kinds, middle_kinds}
use Rattle.nv_ast.specs.Sizes.{GroupNumbers, words_at, expanded, need, variables}
use Rattle.nv_types_table.specs.declared.error.TypeError.{TypeError}
use Rattle.nv_types_table.specs.declared.error.TypeError.TheVariants.{NoMemory}
use Rattle.nv_types_scopes.specs.declared.expected.Expected.{Expected}
use Rattle.nv_types_scopes.specs.declared.expected.Expected.TheVariants.{Value, Typed}
use Rattle.nv_types_table.specs.declared.cost.Cost.{Cost}
use Rattle.nv_types_scopes.specs.declared.functions.Checker.{Checker}
use Rattle.nv_types_scopes.specs.declared.functions.TypedExpr.{TypedExpr}
use Rattle.nv_types_table.specs.inner.Faulty.{IsFirstOf, Judges}
use Rattle.nv_types_table.specs.inner.Store.{Store, IsType, IsValue}
use Rattle.nv_types_table.specs.inner.Cells.{still}
use Rattle.nv_types_table.specs.inner.Costs.{IsCost, two_costs, node_cost}
use Rattle.nv_types_scopes.specs.inner.Judging.{IsExpected, judged_faults}
use Rattle.nv_types_scopes.specs.inner.Standing.{Holds, Sees, place, written_in}
use Rattle.nv_types_scopes.specs.inner.Walk.{Checks}
use Rattle.nv_types_scopes.proofs.Holding.{Keeps-refl}
use Rattle.nv_types_scopes.proofs.WalkCosts.{leaf_costs, node_costs}
use Rattle.nv_types_scopes.proofs.WalkNodes.{Parts, WantsPart, one_part, and_part, failed, part_failed, later_failed, Stands, parts_stand, node_checks}

-- what `plain` says, and what follows a `judge` without a fault
abbrev pub IsJudged : Checker → Span → Expected → Option ℕ → Option ℕ → Option ℕ → Result TypedExpr TypeError → Type 0
IsJudged c s expected value low middle r = (w : ExpectedTree) (t : Option Ty) → IsExpected c.table expected w → IsValue c.table value t → Judges (judged_faults s w t low middle) r

abbrev pub IsCounted : Checker → Option ℕ → Cost → Result TypedExpr TypeError → Type 0
IsCounted c value parts r = (t : Option Ty) → IsValue c.table value t → IfOk r (λ f. f.cost ≡ node_cost (still (words_of_value t)) parts)

-- memory exhaustion says nothing
pub no_memory : (c new : Checker) (tail : Bool) (expected : Expected) (e : Tree) (error : TypeError) → error ≡ NoMemory → Checks c new tail expected e (Err error)
no_memory c new tail expected e error is = failed c new tail expected e error (λ k vars w holds sees wants. subst (λ (x : TypeError). IsFirstOf (faults (place k vars tail) w e) x) (sym is) tt)

-- ---- a node with one part in front of it
pub over_stands : (c new : Checker) (tail inner : Bool) (e part : Tree) (w : Known → Vars → ExpectedTree) (value : Option ℕ) (cost parts : Cost) (low middle : Option ℕ)
    → Parts c new cost (λ k vars. faults (place k vars inner) (w k vars) part) (λ k vars. words_at k vars part) (λ sizes k vars. expanded sizes k vars part) (λ needs k vars. need needs k vars part) (variables part)
    → parts ≡ cost
    → ((k : Known) (vars : Vars) (v : ExpectedTree) → faults (place k vars tail) v e ≡ faults (place k vars inner) (w k vars) part ++ node_faults (place k vars tail) v e)
    → variables e ≡ variables part
    → ((sizes : GroupNumbers) (k : Known) (vars : Vars) → expanded sizes k vars e ≡ (1 + words_at k vars e) + expanded sizes k vars part)
    → ((needs : GroupNumbers) (k : Known) (vars : Vars) → need needs k vars e ≡ (2 + words_at k vars e) + (words_at k vars part + need needs k vars part))
    → ((k : Known) (vars : Vars) → Holds c k → Sees c vars → low_kinds (place k vars tail) e ≡ option_to_list low)
    → ((k : Known) (vars : Vars) → Holds c k → Sees c vars → middle_kinds (place k vars tail) e ≡ option_to_list middle)
    → ((k : Known) (vars : Vars) → Holds c k → Sees c vars → IsValue new.table value (type_at k vars e))
    → Stands c new tail e value parts low middle
over_stands c new tail inner e part w value cost parts low middle clean same shape writes size_is need_is low_is middle_is valued =
    parts_stand c new tail e value cost parts low middle (λ k vars. faults (place k vars inner) (w k vars) part) (λ k vars. words_at k vars part) (λ sizes k vars. expanded sizes k vars part) (λ needs k vars. need needs k vars part) (variables part)
    clean same shape writes size_is need_is low_is middle_is valued

value_wanted : (c : Checker) → WantsPart c Value (λ k vars. a_value)
value_wanted c k vars holds sees = refl

type_wanted : (c : Checker) (i : ℕ) (t : Ty) → IsType c.table i t → WantsPart c (Typed i) (λ k vars. of_type t)
type_wanted c i t h k vars holds sees = (t, h, refl)

-- ---- leaves
pub leaf_stands : (c : Checker) (tail : Bool) (e : Tree) (value : Option ℕ)
    → ((k : Known) (vars : Vars) (v : ExpectedTree) → faults (place k vars tail) v e ≡ node_faults (place k vars tail) v e)
    → variables e ≡ []
    → ((sizes : GroupNumbers) (k : Known) (vars : Vars) → expanded sizes k vars e ≡ 1 + words_at k vars e)
    → ((needs : GroupNumbers) (k : Known) (vars : Vars) → need needs k vars e ≡ 2 + words_at k vars e)
    → ((k : Known) (vars : Vars) → low_kinds (place k vars tail) e ≡ [])
    → ((k : Known) (vars : Vars) → middle_kinds (place k vars tail) e ≡ [])
    → ((k : Known) (vars : Vars) → IsValue c.table value (type_at k vars e))
    → Stands c c tail e value (record { words = 0; size = 0; need = 0 }) None None
leaf_stands c tail e value own writes size_is need_is low_is middle_is valued = record {
  own = λ k vars v holds sees. own k vars v;
  low_is = λ k vars holds sees. low_is k vars;
  middle_is = λ k vars holds sees. middle_is k vars;
  valued = λ k vars holds sees. valued k vars;
  counted = λ k vars sizes needs holds sees counts.
      let at = leaf_costs (words_at k vars e) in
      record { of_words = at.of_words; of_size = at.of_size ∙ ap still (sym (size_is sizes k vars)); of_need = at.of_need ∙ ap still (sym (need_is needs k vars)) };
  keeps = Keeps-refl c;
  writes = sym (append-nil (written_in c)) ∙ ap (λ l. written_in c ++ l) (sym writes);
}

pub number_checks : (c : Checker) (tail : Bool) (expected : Expected) (s : Span) (n : ℕ) (r : Result TypedExpr TypeError)
    → IsJudged c s expected (Some 0) None None r → IfOk r (λ f. f.value ≡ Some 0) → IsCounted c (Some 0) (record { words = 0; size = 0; need = 0 }) r → Checks c c tail expected (NumberTree s n) r
number_checks c tail expected s n r judged same counted = node_checks c c tail expected (NumberTree s n) (Some 0) (record { words = 0; size = 0; need = 0 }) None None r
    (leaf_stands c tail (NumberTree s n) (Some 0) (λ k vars v. refl) refl (λ sizes k vars. refl) (λ needs k vars. refl) (λ k vars. refl) (λ k vars. refl) (λ k vars. refl)) judged same counted

pub truth_checks : (c : Checker) (tail : Bool) (expected : Expected) (s : Span) (b : Bool) (r : Result TypedExpr TypeError)
    → IsJudged c s expected (Some 1) None None r → IfOk r (λ f. f.value ≡ Some 1) → IsCounted c (Some 1) (record { words = 0; size = 0; need = 0 }) r → Checks c c tail expected (TruthTree s b) r
truth_checks c tail expected s b r judged same counted = node_checks c c tail expected (TruthTree s b) (Some 1) (record { words = 0; size = 0; need = 0 }) None None r
    (leaf_stands c tail (TruthTree s b) (Some 1) (λ k vars v. refl) refl (λ sizes k vars. refl) (λ needs k vars. refl) (λ k vars. refl) (λ k vars. refl) (λ k vars. refl)) judged same counted

-- ---- parentheses, ~ and !
pub paren_failed : (c b : Checker) (tail : Bool) (expected : Expected) (s : Span) (e : Tree) (error : TypeError) → Checks c b tail Value e (Err error) → (new : Checker) → Checks c new tail expected (ParenTree s e) (Err error)
paren_failed c b tail expected s e error h new =
    part_failed c new b tail tail expected Value (ParenTree s e) e error (λ k vars. a_value) (λ k vars v. node_faults (place k vars tail) v (ParenTree s e)) h (value_wanted c) (λ k vars v. refl)

pub paren_checks : (c new : Checker) (tail : Bool) (expected : Expected) (s : Span) (e : Tree) (part : TypedExpr) (r : Result TypedExpr TypeError) → Checks c new tail Value e (Ok part)
    → IsJudged new s expected part.value None None r → IfOk r (λ f. f.value ≡ part.value) → IsCounted new part.value part.cost r → Checks c new tail expected (ParenTree s e) r
paren_checks c new tail expected s e part r h judged same counted = node_checks c new tail expected (ParenTree s e) part.value part.cost None None r
    (over_stands c new tail tail (ParenTree s e) e (λ k vars. a_value) part.value part.cost part.cost None None (one_part c new tail Value e part (λ k vars. a_value) (value_wanted c) h) refl
    (λ k vars v. refl) refl (λ sizes k vars. refl) (λ needs k vars. refl) (λ k vars holds sees. refl) (λ k vars holds sees. refl) h.typed) judged same counted

pub invert_failed : (c b : Checker) (tail : Bool) (expected : Expected) (s : Span) (e : Tree) (error : TypeError) → Checks c b false (Typed 0) e (Err error) → (new : Checker) → Checks c new tail expected (InvertTree s e) (Err error)
invert_failed c b tail expected s e error h new =
    part_failed c new b tail false expected (Typed 0) (InvertTree s e) e error (λ k vars. of_type WordTy) (λ k vars v. node_faults (place k vars tail) v (InvertTree s e)) h (type_wanted c 0 WordTy refl) (λ k vars v. refl)

pub invert_checks : (c new : Checker) (tail : Bool) (expected : Expected) (s : Span) (e : Tree) (part : TypedExpr) (r : Result TypedExpr TypeError) → Checks c new false (Typed 0) e (Ok part)
    → IsJudged new s expected (Some 0) None None r → IfOk r (λ f. f.value ≡ Some 0) → IsCounted new (Some 0) part.cost r → Checks c new tail expected (InvertTree s e) r
invert_checks c new tail expected s e part r h judged same counted = node_checks c new tail expected (InvertTree s e) (Some 0) part.cost None None r
    (over_stands c new tail false (InvertTree s e) e (λ k vars. of_type WordTy) (Some 0) part.cost part.cost None None (one_part c new false (Typed 0) e part (λ k vars. of_type WordTy) (type_wanted c 0 WordTy refl) h) refl
    (λ k vars v. refl) refl (λ sizes k vars. refl) (λ needs k vars. refl) (λ k vars holds sees. refl) (λ k vars holds sees. refl) (λ k vars holds sees. refl)) judged same counted

pub negate_failed : (c b : Checker) (tail : Bool) (expected : Expected) (s : Span) (e : Tree) (error : TypeError) → Checks c b false (Typed 1) e (Err error) → (new : Checker) → Checks c new tail expected (NegateTree s e) (Err error)
negate_failed c b tail expected s e error h new =
    part_failed c new b tail false expected (Typed 1) (NegateTree s e) e error (λ k vars. of_type BoolTy) (λ k vars v. node_faults (place k vars tail) v (NegateTree s e)) h (type_wanted c 1 BoolTy refl) (λ k vars v. refl)

pub negate_checks : (c new : Checker) (tail : Bool) (expected : Expected) (s : Span) (e : Tree) (part : TypedExpr) (r : Result TypedExpr TypeError) → Checks c new false (Typed 1) e (Ok part)
    → IsJudged new s expected (Some 1) None None r → IfOk r (λ f. f.value ≡ Some 1) → IsCounted new (Some 1) part.cost r → Checks c new tail expected (NegateTree s e) r
negate_checks c new tail expected s e part r h judged same counted = node_checks c new tail expected (NegateTree s e) (Some 1) part.cost None None r
    (over_stands c new tail false (NegateTree s e) e (λ k vars. of_type BoolTy) (Some 1) part.cost part.cost None None (one_part c new false (Typed 1) e part (λ k vars. of_type BoolTy) (type_wanted c 1 BoolTy refl) h) refl
    (λ k vars v. refl) refl (λ sizes k vars. refl) (λ needs k vars. refl) (λ k vars holds sees. refl) (λ k vars holds sees. refl) (λ k vars holds sees. refl)) judged same counted

-- ---- shifts
pub shift_failed : (c b : Checker) (expected : Expected) (s : Span) (op : ShiftOp) (e : Tree) (n : ℕ) (error : TypeError) → Checks c b false (Typed 0) e (Err error) → (new : Checker) → Checks c new false expected (ShiftTree s op e n) (Err error)
shift_failed c b expected s op e n error h new =
    part_failed c new b false false expected (Typed 0) (ShiftTree s op e n) e error (λ k vars. of_type WordTy) (λ k vars v. node_faults (place k vars false) v (ShiftTree s op e n)) h (type_wanted c 0 WordTy refl) (λ k vars v. refl)

pub shift_stands : (c new : Checker) (s : Span) (op : ShiftOp) (e : Tree) (n : ℕ) (part : TypedExpr) (count : Option ℕ) → Checks c new false (Typed 0) e (Ok part) → where_true {A = ℕ} (nat_lt 31 n) 21 ≡ option_to_list count
    → Stands c new false (ShiftTree s op e n) (Some 0) part.cost None count
shift_stands c new s op e n part count h right =
    over_stands c new false false (ShiftTree s op e n) e (λ k vars. of_type WordTy) (Some 0) part.cost part.cost None count (one_part c new false (Typed 0) e part (λ k vars. of_type WordTy) (type_wanted c 0 WordTy refl) h) refl
    (λ k vars v. refl) refl (λ sizes k vars. refl) (λ needs k vars. refl) (λ k vars holds sees. refl) (λ k vars holds sees. right) (λ k vars holds sees. refl)

-- ---- two operands
pub left_failed : (c b : Checker) (expected : Expected) (s : Span) (op : Op) (x y : Tree) (i : ℕ) (error : TypeError) → ((t : Store) → IsType t i (operand_ty op)) → Checks c b false (Typed i) x (Err error) → (new : Checker) → Checks c new false expected (BinaryTree s op x y) (Err error)
left_failed c b expected s op x y i error is h new =
    part_failed c new b false false expected (Typed i) (BinaryTree s op x y) x error (λ k vars. of_type (operand_ty op)) (λ k vars v. faults (place k vars false) (of_type (operand_ty op)) y ++ node_faults (place k vars false) v (BinaryTree s op x y)) h
    (type_wanted c i (operand_ty op) (is c.table)) (λ k vars v. refl)

pub right_failed : (c d b : Checker) (expected : Expected) (s : Span) (op : Op) (x y : Tree) (i : ℕ) (left : TypedExpr) (error : TypeError) → ((t : Store) → IsType t i (operand_ty op)) → Checks c d false (Typed i) x (Ok left) → Checks d b false (Typed i) y (Err error) → (new : Checker) → Checks c new false expected (BinaryTree s op x y) (Err error)
right_failed c d b expected s op x y i left error is g h new =
    later_failed c d b new false false expected (Typed i) (BinaryTree s op x y) y error (λ k vars. of_type (operand_ty op)) (λ k vars v. node_faults (place k vars false) v (BinaryTree s op x y))
    left.cost (λ k vars. faults (place k vars false) (of_type (operand_ty op)) x) (λ k vars. words_at k vars x) (λ sizes k vars. expanded sizes k vars x) (λ needs k vars. need needs k vars x) (variables x)
    (one_part c d false (Typed i) x left (λ k vars. of_type (operand_ty op)) (type_wanted c i (operand_ty op) (is c.table)) g) h (type_wanted d i (operand_ty op) (is d.table)) (λ k vars v. refl)

pub binary_checks : (c d new : Checker) (expected : Expected) (s : Span) (op : Op) (x y : Tree) (i j : ℕ) (left right : TypedExpr) (parts : Cost) (r : Result TypedExpr TypeError)
    → ((t : Store) → IsType t i (operand_ty op)) → ((t : Store) → IsType t j (result_ty op)) → Checks c d false (Typed i) x (Ok left) → Checks d new false (Typed i) y (Ok right) → parts ≡ two_costs left.cost right.cost
    → IsJudged new s expected (Some j) None None r → IfOk r (λ f. f.value ≡ Some j) → IsCounted new (Some j) parts r → Checks c new false expected (BinaryTree s op x y) r
binary_checks c d new expected s op x y i j left right parts r operand result g h sum judged same counted =
    let w = operand_ty op in
    let one = one_part c d false (Typed i) x left (λ k vars. of_type (operand_ty op)) (type_wanted c i w (operand c.table)) g in
    let other = one_part d new false (Typed i) y right (λ k vars. of_type (operand_ty op)) (type_wanted d i w (operand d.table)) h in
    let both = and_part c d new left.cost right.cost (λ k vars. faults (place k vars false) (of_type w) x) (λ k vars. faults (place k vars false) (of_type w) y) (λ k vars. words_at k vars x) (λ k vars. words_at k vars y)
    (λ sizes k vars. expanded sizes k vars x) (λ needs k vars. need needs k vars x) (λ sizes k vars. expanded sizes k vars y) (λ needs k vars. need needs k vars y) (variables x) (variables y) one other in
    node_checks c new false expected (BinaryTree s op x y) (Some j) parts None None r
    (record {
      own = λ k vars v holds sees.
          sym (append_assoc (faults (place k vars false) (of_type w) x) (faults (place k vars false) (of_type w) y) (node_faults (place k vars false) v (BinaryTree s op x y)))
          ∙ ap (λ l. l ++ node_faults (place k vars false) v (BinaryTree s op x y)) (both.clean k vars holds sees);
      low_is = λ k vars holds sees. refl;
      middle_is = λ k vars holds sees. refl;
      valued = λ k vars holds sees. result new.table;
      counted = λ k vars sizes needs holds sees counts.
          let v = words_at k vars (BinaryTree s op x y) in
          subst (λ (a : Cost). IsCost (node_cost (still v) a) v (expanded sizes k vars (BinaryTree s op x y)) (need needs k vars (BinaryTree s op x y))) (sym sum)
          (node_costs (two_costs left.cost right.cost) v (words_at k vars x + words_at k vars y) (expanded sizes k vars x + expanded sizes k vars y) (max (need needs k vars x) (need needs k vars y)) (both.counted k vars sizes needs holds sees counts));
      keeps = both.keeps;
      writes = both.writes;
    }) judged same counted
