-- What the report of a search says of the form whose program was searched.
use Rattle.std.proofs.Common.{◌≡◌, ℕ, ◌+◌, ◌-◌, ◌*◌, ◌^◌, ◌≤◌, List, Option, Some, None, length, sym, ap, subst, ◌∙◌, Result, Ok, Err, IfOk, IfErr, IfSome, arith}
use Rattle.std.proofs.Math.Nat.{le_trans}
use Rattle.ssu_ir.specs.Measures.{peak}
use Rattle.ssu_ir.specs.Tree.{Label}
use Rattle.uc_isa.specs.Code.{CodeView}
use Rattle.uc_isa.specs.Moves.{moves}
use Rattle.zo_model.specs.Contents.{contents}
use Rattle.zo_model.specs.Program.{Feasible as Meeting, cost_of, costs_of, vector}
use Rattle.zo_model.specs.Program as zero_one
use Rattle.zo_model.specs.declared.program.Assignment.{Assignment}
use Rattle.zo_model.specs.declared.program.ZeroOne.{ZeroOne}
use Rattle.zo_cert.specs.Certificate.{IsTreeWith, branches}
use Rattle.zo_cert.specs.Report.{IsValidReport, IsTrueReport, VerdictHolds}
use Rattle.zo_cert.specs.Searched.{IsSearched}
use Rattle.zo_cert_tree.specs.declared.cert.Claim.TheVariants.{Least}
use Rattle.zo_cert.specs.declared.report.Report.{Report}
use Rattle.zo_cert.specs.declared.report.Verdict.{Verdict}
use Rattle.zo_cert.specs.declared.report.Verdict.TheVariants.{Optimal, Feasible, Infeasible, Spent}
use Rattle.zo_solve.specs.Reported.{IsReportOf, verdict_of}
use Rattle.zo_solve.specs.Solved as solved
use Rattle.zo_solve.specs.Solved.{CostsAtMost, HadNoStart, IsDecided, OfVector, tree_of}
use Rattle.zo_solve_dive.specs.Vector.{IsVector, cost_at, start_cost}
use Rattle.zo_solve.specs.declared.search.Solved.{Solved}
use Rattle.zo_solve.specs.declared.search.Solved.TheVariants as answers
use Rattle.bank_prog_form.specs.Columns.{columns}
use Rattle.bank_prog.specs.Weighted.{weighted_costs, weighted_program}
use Rattle.bank_prog.proofs.LawsRows.{feasible-by-name}
use Rattle.nova_back.proofs.ColumnLabels.{weighted-length}
use Rattle.nova_back.specs.Causes.{IsCodeOf, AreStartsOf, IsCodeBy, HasVector, IsEnded, IsReportOn, IsWithout, IsCheapFor, claim_of, copies_cost, report_cost}
use Rattle.nova_back.specs.declared.error.BackError.{BackError}
use Rattle.nova_back.specs.declared.error.BackError.TheVariants as back
use Rattle.nova_back.specs.inner.Search.{IsChoice, IsCrowded, IsStart, IsCheap, HadNone, IsNoDearer, IsFound, IsCrowdedWithout, IsSearchOn, IsChosen, IsTold, IsUnfound}

-- ---- from an answer to its report

claim-same : (z : ZeroOne) (s : Solved) (slots budget : ℕ) (r : Report) → IsReportOf z s slots budget r → claim_of r.verdict r ≡ solved.claim_of z s
claim-same z (answers.Optimal x c) slots budget r h =
    ap (λ v. claim_of v r) h.verdict_is ∙ ap (λ w. Least (cost_of w (vector r.x.on.items))) h.program ∙ ap (λ y. Least (cost_of z (vector y.on.items))) h.vector
claim-same z (answers.Feasible x c) slots budget r h =
    ap (λ v. claim_of v r) h.verdict_is ∙ ap (λ w. Least (cost_of w (vector r.x.on.items))) h.program ∙ ap (λ y. Least (cost_of z (vector y.on.items))) h.vector
claim-same z (answers.Infeasible c) slots budget r h = ap (λ v. claim_of v r) h.verdict_is
claim-same z (answers.Spent c) slots budget r h = ap (λ v. claim_of v r) h.verdict_is

pub searched-for : (z : ZeroOne) (s : Solved) (slots budget : ℕ) (r : Report) → IsReportOf z s slots budget r → IsTreeWith (IsSearched z (solved.claim_of z s)) (tree_of s)
    → IsTreeWith (IsSearched r.z (claim_of r.verdict r)) r.tree
searched-for z s slots budget r h t =
    subst (λ c. IsTreeWith (IsSearched r.z (claim_of r.verdict r)) c) (sym h.tree_is)
    (subst (λ w. IsTreeWith (IsSearched w (claim_of r.verdict r)) (tree_of s)) (sym h.program)
    (subst (λ k. IsTreeWith (IsSearched z k) (tree_of s)) (sym (claim-same z s slots budget r h)) t))

decided-ends : (s : Solved) → IsDecided s → IsEnded (verdict_of s)
decided-ends (answers.Optimal x c) h = tt
decided-ends (answers.Feasible x c) h = h
decided-ends (answers.Infeasible c) h = tt
decided-ends (answers.Spent c) h = h

pub ends-so : (z : ZeroOne) (s : Solved) (slots budget : ℕ) (r : Report) → IsReportOf z s slots budget r → (2 ^ (zero_one.columns z + 1) - 1 ≤ budget → IsDecided s) → 2 ^ (zero_one.columns r.z + 1) - 1 ≤ budget → IsEnded r.verdict
ends-so z s slots budget r h d few = subst IsEnded (sym h.verdict_is) (decided-ends s (d (subst (λ w. 2 ^ (zero_one.columns w + 1) - 1 ≤ budget) h.program few)))

none-had : (start : Option Assignment) (s : Solved) → HadNoStart start s → HadNone start (verdict_of s)
none-had start (answers.Optimal x c) h = tt
none-had start (answers.Feasible x c) h = tt
none-had start (answers.Infeasible c) h = h
none-had start (answers.Spent c) h = h

pub had-none : (z : ZeroOne) (start : Option Assignment) (s : Solved) (slots budget : ℕ) (r : Report) → IsReportOf z s slots budget r → HadNoStart start s → HadNone start r.verdict
had-none z start s slots budget r h g = subst (HadNone start) (sym h.verdict_is) (none-had start s g)

cost-same : (z : ZeroOne) (x : Assignment) (r : Report) → r.z ≡ z → r.x ≡ x → report_cost r ≡ cost_at z x
cost-same z x r e f = ap (λ w. cost_of w (vector r.x.on.items)) e ∙ ap (λ y. cost_of z (vector y.on.items)) f

pub no-dearer : (z : ZeroOne) (start : Option Assignment) (s : Solved) (slots budget : ℕ) (r : Report) → IsReportOf z s slots budget r → OfVector (λ x. CostsAtMost (cost_at z x) (start_cost z start)) s → IsNoDearer z start r.verdict r
no-dearer z start (answers.Optimal x c) slots budget r h g =
    subst (λ v. IsNoDearer z start v r) (sym h.verdict_is) (subst (λ n. CostsAtMost n (start_cost z start)) (sym (cost-same z x r h.program h.vector)) g)
no-dearer z start (answers.Feasible x c) slots budget r h g =
    subst (λ v. IsNoDearer z start v r) (sym h.verdict_is) (subst (λ n. CostsAtMost n (start_cost z start)) (sym (cost-same z x r h.program h.vector)) g)
no-dearer z start (answers.Infeasible c) slots budget r h g = subst (λ v. IsNoDearer z start v r) (sym h.verdict_is) tt
no-dearer z start (answers.Spent c) slots budget r h g = subst (λ v. IsNoDearer z start v r) (sym h.verdict_is) tt

pub found-report : {E : Type 0} (z : ZeroOne) (start : Option Assignment) (s : Solved) (slots budget : ℕ) (result : Result Report E) → IfOk result IsValidReport → IfOk result IsTrueReport → IfOk result (IsReportOf z s slots budget)
    → IsTreeWith (IsSearched z (solved.claim_of z s)) (tree_of s) → branches (tree_of s).nodes.items ≤ budget → (2 ^ (zero_one.columns z + 1) - 1 ≤ budget → IsDecided s) → HadNoStart start s
    → OfVector (λ x. CostsAtMost (cost_at z x) (start_cost z start)) s → IfOk result (IsFound z start slots budget)
found-report z start s slots budget (Ok r) valid holds says tree within decided none dearer = record {
  valid = valid;
  holds = holds;
  program = says.program;
  slots_are = says.slots_are;
  budget_is = says.budget_is;
  searched = searched-for z s slots budget r says tree;
  within_budget = subst (λ c. branches c.nodes.items ≤ budget) (sym says.tree_is) within;
  ended = ends-so z s slots budget r says decided;
  had_none = had-none z start s slots budget r says none;
  no_dearer = no-dearer z start s slots budget r says dearer;
}
found-report z start s slots budget (Err e) valid holds says tree within decided none dearer = tt

-- ---- from a choice to a vector of the program

columns-same : (z : ZeroOne) (labels : List Label) (slots : ℕ) (ws : List ℕ) → contents z ≡ weighted_program labels slots ws → zero_one.columns z ≡ length (columns labels)
columns-same z labels slots ws e = ap (λ c. length c.costs) e ∙ weighted-length labels ws

pub choice-vector : (z : ZeroOne) (labels : List Label) (slots : ℕ) (ws : List ℕ) (start : Option Assignment) → contents z ≡ weighted_program labels slots ws → IsStart labels slots start → IfSome start (IsVector z)
choice-vector z labels slots ws None e h = tt
choice-vector z labels slots ws (Some x) e h = record {
  one_a_column = h.one_a_column ∙ sym (columns-same z labels slots ws e);
  feasible = (feasible-by-name z labels slots ws (vector x.on.items) e).1 h.feasible;
}

-- ---- from the report of a search to what it says of the form

found-contents : (z : ZeroOne) (labels : List Label) (start : Option Assignment) (slots : ℕ) (ws : List ℕ) (budget : ℕ) (r : Report) → contents z ≡ weighted_program labels slots ws → IsFound z start slots budget r → contents r.z ≡ weighted_program labels slots ws
found-contents z labels start slots ws budget r e f = ap contents f.program ∙ e

report-on : (z : ZeroOne) (labels : List Label) (start : Option Assignment) (slots : ℕ) (ws : List ℕ) (budget : ℕ) (r : Report) → contents z ≡ weighted_program labels slots ws → IsFound z start slots budget r → IsReportOn labels slots ws budget r
report-on z labels start slots ws budget r e f = record {
  valid = f.valid;
  holds = f.holds;
  program = found-contents z labels start slots ws budget r e f;
  slots_are = f.slots_are;
  budget_is = f.budget_is;
  searched = f.searched;
  within_budget = f.within_budget;
  ended = f.ended;
}

vector-meets : (v : Verdict) (r : Report) → HasVector v → VerdictHolds v r → Meeting r.z (vector r.x.on.items)
vector-meets Optimal r g h = h.0
vector-meets Feasible r g h = h.0
vector-meets Infeasible r g h = absurd g
vector-meets Spent r g h = absurd g

pub choice-of-report : (labels : List Label) (slots : ℕ) (ws : List ℕ) (budget : ℕ) (r : Report) → IsReportOn labels slots ws budget r → HasVector r.verdict → IsChoice labels slots r.x
choice-of-report labels slots ws budget r h g = record {
  one_a_column = h.valid.one_a_column ∙ columns-same r.z labels slots ws h.program;
  feasible = (feasible-by-name r.z labels slots ws (vector r.x.on.items) h.program).0 (vector-meets r.verdict r g h.holds.verdict_holds);
}

at-most-start : (z : ZeroOne) (start : Option Assignment) (v : Verdict) (r : Report) → HasVector v → IsNoDearer z start v r → CostsAtMost (report_cost r) (start_cost z start)
at-most-start z start Optimal r g h = h
at-most-start z start Feasible r g h = h
at-most-start z start Infeasible r g h = absurd g
at-most-start z start Spent r g h = absurd g

cheap-start : (z : ZeroOne) (labels : List Label) (slots : ℕ) (ws : List ℕ) (n : ℕ) (start : Option Assignment) → contents z ≡ weighted_program labels slots ws → IsStart labels slots start → peak labels ≤ 15 → IsCheap labels start → CostsAtMost n (start_cost z start) → IsCheapFor labels ws n
cheap-start z labels slots ws n None e s p c m = absurd (omega (arith, s.over_bank, p))
cheap-start z labels slots ws n (Some x) e s p c m = λ most all. le_trans m (subst (λ k. k ≤ copies_cost labels * most) (sym (ap (λ k. costs_of k.costs (vector x.on.items)) e)) (c ws most all))

cheap-report : (z : ZeroOne) (labels : List Label) (start : Option Assignment) (slots : ℕ) (ws : List ℕ) (budget : ℕ) (r : Report) → contents z ≡ weighted_program labels slots ws → IsStart labels slots start → IsFound z start slots budget r → HasVector r.verdict
    → peak labels ≤ 15 → IsCheap labels start → IsCheapFor labels ws (report_cost r)
cheap-report z labels start slots ws budget r e s f g p c = cheap-start z labels slots ws (report_cost r) start e s p c (at-most-start z start r.verdict r g f.no_dearer)

crowded : (labels : List Label) (slots : ℕ) (start : Option Assignment) → start ≡ None → IsStart labels slots start → IsCrowded labels slots
crowded labels slots start e s = subst (IsStart labels slots) e s

crowded-without : (labels : List Label) (slots : ℕ) (start : Option Assignment) (v : Verdict) → IsStart labels slots start → HadNone start v → IsCrowdedWithout labels slots v
crowded-without labels slots start Optimal s h = tt
crowded-without labels slots start Feasible s h = tt
crowded-without labels slots start Infeasible s h = crowded labels slots start h s
crowded-without labels slots start Spent s h = crowded labels slots start h s

pub search-on : (z : ZeroOne) (labels : List Label) (start : Option Assignment) (slots : ℕ) (ws : List ℕ) (budget : ℕ) (r : Report) → contents z ≡ weighted_program labels slots ws → IsStart labels slots start → (peak labels ≤ 15 → IsCheap labels start)
    → IsFound z start slots budget r → IsSearchOn labels slots ws budget r
search-on z labels start slots ws budget r e s c f = record {
  report = report-on z labels start slots ws budget r e f;
  crowded = crowded-without labels slots start r.verdict s f.had_none;
  cheap = λ p g. cheap-report z labels start slots ws budget r e s f g p (c p);
}

without : (labels : List Label) (slots : ℕ) (ws : List ℕ) (budget : ℕ) (v : Verdict) (r : Report) → IsSearchOn labels slots ws budget r → r.verdict ≡ v → IsCrowded labels slots → IsWithout labels slots ws budget v r
without labels slots ws budget v r f is w = record { report = f.report; says = is; over_bank = w.over_bank; over_slots = w.over_slots }

-- ---- from the report to the answer

pub chosen-report : (labels : List Label) (slots : ℕ) (ws : List ℕ) (budget : ℕ) (report : Report) (result : Result Report BackError) → IsSearchOn labels slots ws budget report → IfOk result (λ r. r ≡ report) → IfOk result (λ r. HasVector r.verdict)
    → IfOk result (IsChosen labels slots ws budget)
chosen-report labels slots ws budget report (Ok r) f same found = record { on_form = subst (IsSearchOn labels slots ws budget) (sym same) f; found = found }
chosen-report labels slots ws budget report (Err e) f same found = tt

told-unfound : (labels : List Label) (slots : ℕ) (ws : List ℕ) (budget : ℕ) (report : Report) (e : BackError) → IsSearchOn labels slots ws budget report → IsTold report e → IsUnfound labels slots ws budget e
told-unfound labels slots ws budget report back.NoMemory f h = absurd h
told-unfound labels slots ws budget report (back.TooLarge n) f h = absurd h
told-unfound labels slots ws budget report (back.Infeasible r) f h =
    let g = subst (IsSearchOn labels slots ws budget) (sym h.0) f in
    without labels slots ws budget Infeasible r g h.1 (subst (IsCrowdedWithout labels slots) h.1 g.crowded)
told-unfound labels slots ws budget report (back.Spent r) f h =
    let g = subst (IsSearchOn labels slots ws budget) (sym h.0) f in
    without labels slots ws budget Spent r g h.1 (subst (IsCrowdedWithout labels slots) h.1 g.crowded)
told-unfound labels slots ws budget report (back.StoreFull n) f h = absurd h

pub unfound-report : (labels : List Label) (slots : ℕ) (ws : List ℕ) (budget : ℕ) (report : Report) (result : Result Report BackError) → IsSearchOn labels slots ws budget report → IfErr result (IsTold report) → IfErr result (IsUnfound labels slots ws budget)
unfound-report labels slots ws budget report (Ok r) f h = tt
unfound-report labels slots ws budget report (Err e) f h = told-unfound labels slots ws budget report e f h

-- ---- code by the vector

pub code-by : (labels : List Label) (slots : ℕ) (ws : List ℕ) (budget : ℕ) (r : Report) (c : CodeView) (starts : List ℕ) → IsChosen labels slots ws budget r → IsCodeOf labels slots c → AreStartsOf labels c starts
    → moves c.list starts ws ≤ costs_of (weighted_costs labels ws) (vector r.x.on.items) → IsCodeBy labels slots ws budget r c starts
code-by labels slots ws budget r c starts h code begin light =
    let worth : report_cost r ≡ costs_of (weighted_costs labels ws) (vector r.x.on.items) = ap (λ k. costs_of k.costs (vector r.x.on.items)) h.on_form.report.program in
    record {
      report = h.on_form.report;
      found = h.found;
      code = code;
      labels_start = begin;
      light = omega (arith, worth, light);
      cheap = λ p. h.on_form.cheap p h.found;
    }

pub light_by : (labels : List Label) (slots : ℕ) (ws : List ℕ) (budget : ℕ) (r : Report) (c : CodeView) (starts : List ℕ) → IsChosen labels slots ws budget r → ((vs : List ℕ) → moves c.list starts vs ≤ costs_of (weighted_costs labels vs) (vector r.x.on.items))
    → moves c.list starts ws ≤ report_cost r
light_by labels slots ws budget r c starts h light =
    let worth : report_cost r ≡ costs_of (weighted_costs labels ws) (vector r.x.on.items) = ap (λ k. costs_of k.costs (vector r.x.on.items)) h.on_form.report.program in
    omega (arith, worth, light ws)
