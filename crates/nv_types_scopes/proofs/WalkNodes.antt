-- The faults of a node are those of its parts in order, and then its own.
use Rattle.std.proofs.Common.{◌≡◌, ◌∙◌, ap, sym, subst, ℕ, ◌+◌, max, Bool, List, [], ◌++◌, append_assoc, Option, Result, Ok, Err}
use Rattle.std.specs.Result.{IfOk}
use Rattle.std.specs.Prelude.{option_to_list}
use Rattle.nv_ast.specs.Tree.{Tree, span_of}
use Rattle.nv_ast.specs.Scope.{Known, Vars, Context}
use Rattle.nv_ast.specs.Types.{Ty, words_of_value}
use Rattle.nv_ast.specs.Typing.{type_at}
use Rattle.nv_ast.specs.Faults.{Fault as FaultAt, Expected as ExpectedTree, at_span, faults, node_faults, low_kinds, middle_kinds, other_type, no_value, too_large_value}
use Rattle.nv_ast.specs.Sizes.{GroupNumbers, words_at, expanded, need, variables}
use Rattle.nv_types_table.specs.declared.error.TypeError.{TypeError}
use Rattle.nv_types_scopes.specs.declared.expected.Expected.{Expected}
use Rattle.nv_types_table.specs.declared.cost.Cost.{Cost}
use Rattle.nv_types_scopes.specs.declared.functions.Checker.{Checker}
use Rattle.nv_types_scopes.specs.declared.functions.TypedExpr.{TypedExpr}
use Rattle.nv_types_table.specs.inner.Faulty.{IsFirstOf, Judges}
use Rattle.nv_types_table.specs.inner.Store.{IsValue}
use Rattle.nv_types_table.specs.inner.Cells.{still}
use Rattle.nv_types_table.specs.inner.Costs.{IsCost, two_costs, node_cost}
use Rattle.nv_types_scopes.specs.inner.Judging.{IsExpected, judged_faults}
use Rattle.nv_types_scopes.specs.inner.Standing.{Holds, Sees, Counts, Keeps, place, written_in}
use Rattle.nv_types_scopes.specs.inner.Walk.{Checks}
use Rattle.nv_types_table.proofs.Firsts.{first_append}
use Rattle.nv_types_scopes.proofs.Holding.{Keeps-trans, holds_stays, sees_stay, counts_stay, wanted_stays}
use Rattle.nv_types_scopes.proofs.WalkCosts.{two_parts, node_costs}

-- parts that were walked without a fault: what they cost, and what was written in them
pub record Parts (c new : Checker) (cost : Cost) (bad : Known → Vars → List FaultAt) (words : Known → Vars → ℕ) (sizes_of needs_of : GroupNumbers → Known → Vars → ℕ) (xs : List (List ℕ)) : Type 0 where
  pub clean : (k : Known) (vars : Vars) → Holds c k → Sees c vars → bad k vars ≡ []
  pub counted : (k : Known) (vars : Vars) (sizes needs : GroupNumbers) → Holds c k → Sees c vars → Counts c sizes needs → IsCost cost (words k vars) (sizes_of sizes k vars) (needs_of needs k vars)
  pub keeps : Keeps c new
  pub writes : written_in new ≡ written_in c ++ xs

-- what is wanted of a part, by what is known
abbrev pub WantsPart : Checker → Expected → (Known → Vars → ExpectedTree) → Type 0
WantsPart c expected w = (k : Known) (vars : Vars) → Holds c k → Sees c vars → IsExpected c.table expected (w k vars)

pub one_part : (c new : Checker) (tail : Bool) (expected : Expected) (e : Tree) (found : TypedExpr) (w : Known → Vars → ExpectedTree) → WantsPart c expected w → Checks c new tail expected e (Ok found)
    → Parts c new found.cost (λ k vars. faults (place k vars tail) (w k vars) e) (λ k vars. words_at k vars e) (λ sizes k vars. expanded sizes k vars e) (λ needs k vars. need needs k vars e) (variables e)
one_part c new tail expected e found w wants checks = record {
  clean = λ k vars holds sees. checks.judged k vars (w k vars) holds sees (wants k vars holds sees);
  counted = checks.counted;
  keeps = checks.keeps;
  writes = checks.writes;
}

pub and_part : (a b c : Checker) (cost more : Cost) (bad worse : Known → Vars → List FaultAt) (words others : Known → Vars → ℕ) (sizes_of needs_of sizes_more needs_more : GroupNumbers → Known → Vars → ℕ) (xs ys : List (List ℕ))
    → Parts a b cost bad words sizes_of needs_of xs → Parts b c more worse others sizes_more needs_more ys
    → Parts a c (two_costs cost more) (λ k vars. bad k vars ++ worse k vars) (λ k vars. words k vars + others k vars) (λ sizes k vars. sizes_of sizes k vars + sizes_more sizes k vars) (λ needs k vars. max (needs_of needs k vars) (needs_more needs k vars)) (xs ++ ys)
and_part a b c cost more bad worse words others sizes_of needs_of sizes_more needs_more xs ys first then_ = record {
  clean = λ k vars holds sees.
      ap (λ l. l ++ worse k vars) (first.clean k vars holds sees) ∙ then_.clean k vars (holds_stays a b k first.keeps.declared holds) (sees_stay a b vars first.keeps sees);
  counted = λ k vars sizes needs holds sees counts.
      two_parts cost more (words k vars) (others k vars) (sizes_of sizes k vars) (sizes_more sizes k vars) (needs_of needs k vars) (needs_more needs k vars)
      (first.counted k vars sizes needs holds sees counts)
      (then_.counted k vars sizes needs (holds_stays a b k first.keeps.declared holds) (sees_stay a b vars first.keeps sees) (counts_stay a b sizes needs first.keeps.declared counts));
  keeps = Keeps-trans a b c first.keeps then_.keeps;
  writes = then_.writes ∙ ap (λ l. l ++ ys) first.writes ∙ append_assoc (written_in a) xs ys;
}

-- the table grew before the parts, and after them
pub part_within : (a b c d : Checker) (cost : Cost) (bad : Known → Vars → List FaultAt) (words : Known → Vars → ℕ) (sizes_of needs_of : GroupNumbers → Known → Vars → ℕ) (xs : List (List ℕ))
    → Keeps a b → written_in b ≡ written_in a → Keeps c d → written_in d ≡ written_in c → Parts b c cost bad words sizes_of needs_of xs → Parts a d cost bad words sizes_of needs_of xs
part_within a b c d cost bad words sizes_of needs_of xs before same behind also parts = record {
  clean = λ k vars holds sees. parts.clean k vars (holds_stays a b k before.declared holds) (sees_stay a b vars before sees);
  counted = λ k vars sizes needs holds sees counts. parts.counted k vars sizes needs (holds_stays a b k before.declared holds) (sees_stay a b vars before sees) (counts_stay a b sizes needs before.declared counts);
  keeps = Keeps-trans a b d before (Keeps-trans b c d parts.keeps behind);
  writes = also ∙ parts.writes ∙ ap (λ l. l ++ xs) same;
}

-- ---- an expression with a fault, or one for which memory is wanting
pub failed : (c new : Checker) (tail : Bool) (expected : Expected) (e : Tree) (error : TypeError)
    → ((k : Known) (vars : Vars) (w : ExpectedTree) → Holds c k → Sees c vars → IsExpected c.table expected w → IsFirstOf (faults (place k vars tail) w e) error) → Checks c new tail expected e (Err error)
failed c new tail expected e error h = record { judged = h; typed = λ k vars holds sees. tt; counted = λ k vars sizes needs holds sees counts. tt; keeps = tt; writes = tt }

-- the first of some faults is that of what stands in front of them
pub first_of_part : (a b whole : List FaultAt) (error : TypeError) → whole ≡ a ++ b → IsFirstOf a error → IsFirstOf whole error
first_of_part a b whole error e h = subst (λ l. IsFirstOf l error) (sym e) (first_append a b error h)

-- the first part failed
pub part_failed : (c new b : Checker) (tail inner : Bool) (expected part_wanted : Expected) (e part : Tree) (error : TypeError) (w : Known → Vars → ExpectedTree) (rest : Known → Vars → ExpectedTree → List FaultAt)
    → Checks c b inner part_wanted part (Err error) → WantsPart c part_wanted w
    → ((k : Known) (vars : Vars) (v : ExpectedTree) → faults (place k vars tail) v e ≡ faults (place k vars inner) (w k vars) part ++ rest k vars v) → Checks c new tail expected e (Err error)
part_failed c new b tail inner expected part_wanted e part error w rest checks wants shape =
    failed c new tail expected e error (λ k vars v holds sees is.
    first_of_part (faults (place k vars inner) (w k vars) part) (rest k vars v) (faults (place k vars tail) v e) error (shape k vars v) (checks.judged k vars (w k vars) holds sees (wants k vars holds sees)))

-- a part behind others failed
pub later_failed : (c d b new : Checker) (tail inner : Bool) (expected part_wanted : Expected) (e part : Tree) (error : TypeError) (w : Known → Vars → ExpectedTree) (rest : Known → Vars → ExpectedTree → List FaultAt)
    (cost : Cost) (bad : Known → Vars → List FaultAt) (words : Known → Vars → ℕ) (sizes_of needs_of : GroupNumbers → Known → Vars → ℕ) (xs : List (List ℕ))
    → Parts c d cost bad words sizes_of needs_of xs → Checks d b inner part_wanted part (Err error) → WantsPart d part_wanted w
    → ((k : Known) (vars : Vars) (v : ExpectedTree) → faults (place k vars tail) v e ≡ bad k vars ++ (faults (place k vars inner) (w k vars) part ++ rest k vars v)) → Checks c new tail expected e (Err error)
later_failed c d b new tail inner expected part_wanted e part error w rest cost bad words sizes_of needs_of xs parts checks wants shape =
    failed c new tail expected e error (λ k vars v holds sees is.
    let holds_then = holds_stays c d k parts.keeps.declared holds in
    let sees_then = sees_stay c d vars parts.keeps sees in
    first_of_part (faults (place k vars inner) (w k vars) part) (rest k vars v) (faults (place k vars tail) v e) error
    (shape k vars v ∙ ap (λ l. l ++ (faults (place k vars inner) (w k vars) part ++ rest k vars v)) (parts.clean k vars holds sees))
    (checks.judged k vars (w k vars) holds_then sees_then (wants k vars holds_then sees_then)))

-- the faults of a node behind clean parts
pub own_faults : (c new : Checker) (tail : Bool) (e : Tree) (cost : Cost) (bad : Known → Vars → List FaultAt) (words : Known → Vars → ℕ) (sizes_of needs_of : GroupNumbers → Known → Vars → ℕ) (xs : List (List ℕ))
    → Parts c new cost bad words sizes_of needs_of xs
    → ((k : Known) (vars : Vars) (v : ExpectedTree) → faults (place k vars tail) v e ≡ bad k vars ++ node_faults (place k vars tail) v e)
    → (k : Known) (vars : Vars) (v : ExpectedTree) → Holds c k → Sees c vars → faults (place k vars tail) v e ≡ node_faults (place k vars tail) v e
own_faults c new tail e cost bad words sizes_of needs_of xs parts shape k vars v holds sees =
    shape k vars v ∙ ap (λ l. l ++ node_faults (place k vars tail) v e) (parts.clean k vars holds sees)

-- a node's own faults are those by which it is judged
pub judged_by : (p : Context) (w : ExpectedTree) (e : Tree) (low middle : Option ℕ) → low_kinds p e ≡ option_to_list low → middle_kinds p e ≡ option_to_list middle
    → node_faults p w e ≡ judged_faults (span_of e) w (type_at p.known p.vars e) low middle
judged_by p w e low middle l m =
    let t = type_at p.known p.vars e in
    ap (λ (xs : List ℕ). at_span (span_of e) (xs ++ (other_type w t ++ (middle_kinds p e ++ (no_value w t ++ too_large_value t))))) l
    ∙ ap (λ (xs : List ℕ). at_span (span_of e) (option_to_list low ++ (other_type w t ++ (xs ++ (no_value w t ++ too_large_value t))))) m

-- a node that stands behind clean parts, and is judged
pub record Stands (c new : Checker) (tail : Bool) (e : Tree) (value : Option ℕ) (parts : Cost) (low middle : Option ℕ) : Type 0 where
  pub own : (k : Known) (vars : Vars) (w : ExpectedTree) → Holds c k → Sees c vars → faults (place k vars tail) w e ≡ node_faults (place k vars tail) w e
  pub low_is : (k : Known) (vars : Vars) → Holds c k → Sees c vars → low_kinds (place k vars tail) e ≡ option_to_list low
  pub middle_is : (k : Known) (vars : Vars) → Holds c k → Sees c vars → middle_kinds (place k vars tail) e ≡ option_to_list middle
  pub valued : (k : Known) (vars : Vars) → Holds c k → Sees c vars → IsValue new.table value (type_at k vars e)
  pub counted : (k : Known) (vars : Vars) (sizes needs : GroupNumbers) → Holds c k → Sees c vars → Counts c sizes needs
      → IsCost (node_cost (still (words_at k vars e)) parts) (words_at k vars e) (expanded sizes k vars e) (need needs k vars e)
  pub keeps : Keeps c new
  pub writes : written_in new ≡ written_in c ++ variables e

pub parts_stand : (c new : Checker) (tail : Bool) (e : Tree) (value : Option ℕ) (cost parts : Cost) (low middle : Option ℕ) (bad : Known → Vars → List FaultAt) (words : Known → Vars → ℕ) (sizes_of needs_of : GroupNumbers → Known → Vars → ℕ) (xs : List (List ℕ))
    → Parts c new cost bad words sizes_of needs_of xs
    → parts ≡ cost
    → ((k : Known) (vars : Vars) (v : ExpectedTree) → faults (place k vars tail) v e ≡ bad k vars ++ node_faults (place k vars tail) v e)
    → variables e ≡ xs
    → ((sizes : GroupNumbers) (k : Known) (vars : Vars) → expanded sizes k vars e ≡ (1 + words_at k vars e) + sizes_of sizes k vars)
    → ((needs : GroupNumbers) (k : Known) (vars : Vars) → need needs k vars e ≡ (2 + words_at k vars e) + (words k vars + needs_of needs k vars))
    → ((k : Known) (vars : Vars) → Holds c k → Sees c vars → low_kinds (place k vars tail) e ≡ option_to_list low)
    → ((k : Known) (vars : Vars) → Holds c k → Sees c vars → middle_kinds (place k vars tail) e ≡ option_to_list middle)
    → ((k : Known) (vars : Vars) → Holds c k → Sees c vars → IsValue new.table value (type_at k vars e))
    → Stands c new tail e value parts low middle
parts_stand c new tail e value cost parts low middle bad words sizes_of needs_of xs clean same shape writes size_is need_is low_is middle_is valued = record {
  own = own_faults c new tail e cost bad words sizes_of needs_of xs clean shape;
  low_is = low_is;
  middle_is = middle_is;
  valued = valued;
  counted = λ k vars sizes needs holds sees counts.
      let at = node_costs cost (words_at k vars e) (words k vars) (sizes_of sizes k vars) (needs_of needs k vars) (clean.counted k vars sizes needs holds sees counts) in
      record {
        of_words = at.of_words;
        of_size = ap (λ (x : Cost). (node_cost (still (words_at k vars e)) x).size) same ∙ at.of_size ∙ ap still (sym (size_is sizes k vars));
        of_need = ap (λ (x : Cost). (node_cost (still (words_at k vars e)) x).need) same ∙ at.of_need ∙ ap still (sym (need_is needs k vars));
      };
  keeps = clean.keeps;
  writes = clean.writes ∙ ap (λ l. written_in c ++ l) (sym writes);
}

pub judged_right : {T : Type 0} (c new : Checker) (tail : Bool) (expected : Expected) (e : Tree) (value : Option ℕ) (parts : Cost) (low middle : Option ℕ) (r : Result T TypeError)
    → Stands c new tail e value parts low middle
    → ((w : ExpectedTree) (t : Option Ty) → IsExpected new.table expected w → IsValue new.table value t → Judges (judged_faults (span_of e) w t low middle) r)
    → (k : Known) (vars : Vars) (w : ExpectedTree) → Holds c k → Sees c vars → IsExpected c.table expected w → Judges (faults (place k vars tail) w e) r
judged_right c new tail expected e value parts low middle r stands judged k vars w holds sees is =
    subst (λ l. Judges l r) (sym (stands.own k vars w holds sees ∙ judged_by (place k vars tail) w e low middle (stands.low_is k vars holds sees) (stands.middle_is k vars holds sees)))
    (judged w (type_at k vars e) (wanted_stays c.table new.table stands.keeps.declared.grows expected w is) (stands.valued k vars holds sees))

pub node_failed : {T : Type 0} (c new : Checker) (tail : Bool) (expected : Expected) (e : Tree) (value : Option ℕ) (parts : Cost) (low middle : Option ℕ) (r : Result T TypeError) (error : TypeError)
    → r ≡ Err error → Stands c new tail e value parts low middle
    → ((w : ExpectedTree) (t : Option Ty) → IsExpected new.table expected w → IsValue new.table value t → Judges (judged_faults (span_of e) w t low middle) r)
    → Checks c new tail expected e (Err error)
node_failed c new tail expected e value parts low middle r error is_err stands judged =
    failed c new tail expected e error (λ k vars w holds sees is.
    subst (λ (x : Result _ TypeError). Judges (faults (place k vars tail) w e) x) is_err (judged_right c new tail expected e value parts low middle r stands judged k vars w holds sees is))

pub node_checks : (c new : Checker) (tail : Bool) (expected : Expected) (e : Tree) (value : Option ℕ) (parts : Cost) (low middle : Option ℕ) (r : Result TypedExpr TypeError)
    → Stands c new tail e value parts low middle
    → ((w : ExpectedTree) (t : Option Ty) → IsExpected new.table expected w → IsValue new.table value t → Judges (judged_faults (span_of e) w t low middle) r)
    → IfOk r (λ f. f.value ≡ value)
    → ((t : Option Ty) → IsValue new.table value t → IfOk r (λ f. f.cost ≡ node_cost (still (words_of_value t)) parts))
    → Checks c new tail expected e r
node_checks c new tail expected e value parts low middle (Err error) stands judged same counted = failed c new tail expected e error (judged_right {T = TypedExpr} c new tail expected e value parts low middle (Err error) stands judged)
node_checks c new tail expected e value parts low middle (Ok found) stands judged same counted = record {
  judged = judged_right c new tail expected e value parts low middle (Ok found) stands judged;
  typed = λ k vars holds sees. subst (λ (v : Option ℕ). IsValue new.table v (type_at k vars e)) (sym same) (stands.valued k vars holds sees);
  counted = λ k vars sizes needs holds sees counts.
      subst (λ (x : Cost). IsCost x (words_at k vars e) (expanded sizes k vars e) (need needs k vars e)) (sym (counted (type_at k vars e) (stands.valued k vars holds sees))) (stands.counted k vars sizes needs holds sees counts);
  keeps = stands.keeps;
  writes = stands.writes;
}
