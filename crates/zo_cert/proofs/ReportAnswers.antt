-- where the reader of a report stops after the tree, and its answers
use Rattle.std.proofs.Common.{◌≡◌, ℕ, zero, suc, ◌+◌, ◌*◌, ◌^◌, ◌<◌, ◌≤◌, List, [], ◌∷◌, ◌++◌, length, get_or, map, refl, sym, ap, ◌∙◌, subst, arith, append_assoc, Bool, true, false, Result, Ok, Err, IfOk, IfErr}
use Rattle.std.specs.List.{All}
use Rattle.std.proofs.lemmas.List.{append-nil, length-map}
use Rattle.std.proofs.lemmas.List.Elements.{All-head, All-tail, All-nil, All-cons}
use Rattle.nv_lines.specs.Line.{text_of}
use Rattle.nv_lines.specs.Format.{Begins}
use Rattle.nv_lines.proofs.SplitLaws.{same, longer, shorter, lie, lines_one, AllLack-append}
use Rattle.nv_lines.proofs.FormatLaws.{no_text, one_fault}
use Rattle.zo_model.specs.Contents.{Contents}
use Rattle.zo_model.specs.Program.{vector, cost_below, cost_where, costs_of}
use Rattle.zo_model.specs.ProgramText.{IsValidContents}
use Rattle.zo_model.specs.declared.error.ZoError.{ZoError}
use Rattle.zo_model.specs.declared.error.ZoError.TheVariants.{NoMemory, Bad}
use Rattle.zo_model.proofs.ExactLemmas.{valid_from_contents}
use Rattle.zo_cert.specs.Contents.{ReportContents, report_contents}
use Rattle.zo_cert_tree.specs.Node.{node_contents, IsNode, IsNodeText}
use Rattle.zo_cert.specs.Report.{IsBlank, IsValidReport}
use Rattle.zo_cert.specs.ReportText.{verdict_lines, report_lines, report_text}
use Rattle.zo_cert.specs.ReportFault.{IsReport, HasCost, front_lines, stated_lines, tree_lines, AreStatedLines, IsMisstated, IsFirstReportFault, wrong_cost, wrong_line}
use Rattle.zo_cert.specs.ReportAnswer.{IsTrueReportRefusal, AnswersReport, AnswersFault}
use Rattle.zo_cert_tree.specs.declared.cert.CertNode.{CertNode}
use Rattle.zo_cert_tree.specs.declared.cert.CertNode.TheVariants.{Branch, Bound, Clash, Left}
use Rattle.zo_cert.specs.declared.report.Report.{Report}
use Rattle.zo_cert.specs.declared.report.Verdict.{Verdict}
use Rattle.zo_cert.specs.declared.report.Verdict.TheVariants as verdicts
use Rattle.zo_cert.proofs.ReportPeel.{front_peel}
use Rattle.zo_cert.proofs.ReportFormat.{front_lack, verdict_lack, stated_lack, stated_format, report_peel}
use Rattle.zo_cert.proofs.ReportRefusals.{StatesTruly, behind_refusal}
use Rattle.zo_cert.proofs.ReportEndings.{AreBefore, behind_verdict, tree_truly}

-- the costs of the columns are small
index_small : (costs : List ℕ) (n : ℕ) → All (λ c. c < 2 ^ 20) costs → get_or costs n 0 ≤ 2 ^ 20
index_small [] n h = omega arith
index_small (c ∷ costs) zero h = omega (arith, All-head (λ c. c < 2 ^ 20) c costs h)
index_small (c ∷ costs) (suc n) h = index_small costs n (All-tail (λ c. c < 2 ^ 20) c costs h)

where_small : (b : Bool) (c : ℕ) → cost_where b c ≤ c
where_small true c = omega arith
where_small false c = omega arith

cost_small : (n : ℕ) (costs : List ℕ) (x : ℕ → Bool) → All (λ c. c < 2 ^ 20) costs → cost_below n costs x ≤ n * 2 ^ 20
cost_small zero costs x h = omega arith
cost_small (suc n) costs x h =
    let ih : cost_below n costs x ≤ n * 2 ^ 20 = cost_small n costs x h in
    omega (arith, ih, where_small (x n) (get_or costs n 0), index_small costs n h)

-- ---- after the tree

-- the cost that a report's verdict states
abbrev pub its_cost : ReportContents → ℕ
its_cost r = costs_of r.program.costs (vector r.on)

pub costs_fit : (p : Contents) (on : List Bool) → IsValidContents p → costs_of p.costs (vector on) < 2 ^ 64
costs_fit p on v = omega (arith, cost_small (length p.costs) p.costs (vector on) v.costs_fit, v.columns_fit)

cost_fits : (r : ReportContents) → IsReport r → its_cost r < 2 ^ 64
cost_fits r v = costs_fit r.program r.on v.in_limits.program_valid

pub verdict_states : (v : Verdict) (costs : List ℕ) (on : List Bool) → verdict_lines v costs on ≡ stated_lines v (costs_of costs (vector on)) on
verdict_states verdicts.Optimal costs on = refl
verdict_states verdicts.Feasible costs on = refl
verdict_states verdicts.Infeasible costs on = refl
verdict_states verdicts.Spent costs on = refl

-- a report's lines, in which the verdict states its cost
pub lines_stated : (r : ReportContents) → report_lines r ≡ front_lines r.slots r.budget r.program ++ stated_lines r.verdict (its_cost r) r.on ++ tree_lines r.nodes
lines_stated r = ap (λ t. front_lines r.slots r.budget r.program ++ t ++ tree_lines r.nodes) (verdict_states r.verdict r.program.costs r.on)

pub report_is : (r : ReportContents) → IsReport r → AreStatedLines (report_lines r)
report_is r v = record { report = r; stated = its_cost r; valid = v; within = cost_fits r v; lines = lines_stated r }

before_is : (r : ReportContents) → IsReport r → AreBefore r.slots r.budget r.program r.verdict (its_cost r) r.on
before_is r v = record { in_limits = v.in_limits; within = cost_fits r v; one_a_column = v.one_a_column; blank = v.blank; truly = λ h. refl }

pub report_truly : (r : ReportContents) → IsReport r → StatesTruly (report_lines r)
report_truly r v =
    subst StatesTruly (sym (lines_stated r))
    (tree_truly r.slots r.budget r.program r.verdict (its_cost r) r.on (tree_lines r.nodes) (before_is r v))

pub end_refusal : (r : ReportContents) (bytes rest : List ℕ) (n : ℕ) → IsReport r → bytes ≡ text_of (report_lines r) ++ rest → (rest ≡ [] → ⊥) → n ≡ length (report_lines r) + 1 → IsFirstReportFault bytes n
end_refusal r bytes rest n v e some counted =
    subst (IsFirstReportFault bytes) (sym counted) (behind_refusal bytes (report_lines r) rest e (report_is r v) some (report_truly r v))

-- ---- of a text's answers one is true

blanks_one : (xs ys : List Bool) → length xs ≡ length ys → All (λ v. v ≡ false) xs → All (λ v. v ≡ false) ys → xs ≡ ys
blanks_one [] [] l h k = refl
blanks_one [] (y ∷ ys) l h k = absurd (omega arith)
blanks_one (x ∷ xs) [] l h k = absurd (omega arith)
blanks_one (x ∷ xs) (y ∷ ys) l h k =
    let a : x ≡ false = All-head (λ v. v ≡ false) x xs h in
    let b : y ≡ false = All-head (λ v. v ≡ false) y ys k in
    let r = blanks_one xs ys (omega arith) (All-tail (λ v. v ≡ false) x xs h) (All-tail (λ v. v ≡ false) y ys k) in cc (a, b, r)

columns_one : (v : Verdict) (xs ys : List Bool) → length xs ≡ length ys → IsBlank v xs → IsBlank v ys → (HasCost v → xs ≡ ys) → xs ≡ ys
columns_one verdicts.Optimal xs ys l h k e = e tt
columns_one verdicts.Feasible xs ys l h k e = e tt
columns_one verdicts.Infeasible xs ys l h k e = blanks_one xs ys l h k
columns_one verdicts.Spent xs ys l h k e = blanks_one xs ys l h k

-- a report has one text
report_one : (a b : ReportContents) → IsReport a → IsReport b → report_lines a ≡ report_lines b → a ≡ b
report_one a b v w e =
    let p = report_peel a b (its_cost a) (its_cost b) [] [] v w (cost_fits a v) (cost_fits b w) (ap (λ t. t ++ []) (sym (lines_stated a) ∙ (e ∙ lines_stated b))) in
    let same_program = p.program in
    let on = columns_one a.verdict a.on b.on (v.one_a_column ∙ (ap (λ q. length q.costs) same_program ∙ sym w.one_a_column)) v.blank (subst (λ t. IsBlank t b.on) (sym p.verdict) w.blank) p.on in
    let slots = p.slots in
    let budget = p.budget in
    let verdict = p.verdict in
    let nodes = p.nodes in
    λ j. record { slots = slots j; budget = budget j; program = same_program j; verdict = verdict j; on = on j; nodes = nodes j }

-- the same of the bytes
text_one : (a b : ReportContents) → IsReport a → IsReport b → report_text a ≡ report_text b → a ≡ b
unfolding report_text
text_one a b v w e =
    report_one a b v w
    (lines_one (report_lines a) (report_lines b) [] [] (stated_lack (report_lines a) (report_is a v)) (stated_lack (report_lines b) (report_is b w)) tt tt (ap (λ t. t ++ []) e)).0

-- no verdict of a report's text states a wrong cost
not_misstated : (r : ReportContents) (bytes : List ℕ) (n : ℕ) → IsReport r → bytes ≡ text_of (report_lines r) → IsMisstated bytes n → ⊥
not_misstated r bytes n v e m =
    let xs = front_lines m.slots m.budget m.program ++ stated_lines m.verdict m.stated m.on in
    let lack_xs = AllLack-append 10 (front_lines m.slots m.budget m.program) (stated_lines m.verdict m.stated m.on) (front_lack m.slots m.budget m.program m.in_limits) (verdict_lack (length m.program.costs) m.verdict m.stated m.on m.in_limits.program_valid.columns_fit m.one_a_column m.within) in
    let whole = report_is r v in
    let texts : text_of (report_lines r) ++ [] ≡ text_of xs ++ m.back = append-nil (text_of (report_lines r)) ∙ (sym e ∙ m.spelled) in
    elim (lie (report_lines r) xs [] m.back (stated_lack (report_lines r) whole) lack_xs texts) [
      | same t ↦ m.not_its_cost (report_truly r v m.slots m.budget m.program m.verdict m.stated m.on [] m.in_limits m.has_cost m.within m.one_a_column (t ∙ sym (append-nil xs)))
      | longer y more t ↦ goes_past y more t
      | shorter x more t ↦ m.not_its_cost (report_truly r v m.slots m.budget m.program m.verdict m.stated m.on (x ∷ more) m.in_limits m.has_cost m.within m.one_a_column t)
    ]
  where
    goes_past : (y : List ℕ) (more : List (List ℕ)) → front_lines m.slots m.budget m.program ++ stated_lines m.verdict m.stated m.on ≡ report_lines r ++ y ∷ more → ⊥
    goes_past y more t =
        let front = front_lines r.slots r.budget r.program in
        let verdict = stated_lines r.verdict (its_cost r) r.on in
        let tail = tree_lines r.nodes ++ y ∷ more in
        let behind : (front ++ verdict) ++ tail ≡ front_lines m.slots m.budget m.program ++ (stated_lines m.verdict m.stated m.on ++ []) =
        sym (append_assoc (front ++ verdict) (tree_lines r.nodes) (y ∷ more))
        ∙ (ap (λ k. k ++ y ∷ more) (sym (lines_stated r)) ∙ (sym t ∙ ap (λ k. front_lines m.slots m.budget m.program ++ k) (sym (append-nil (stated_lines m.verdict m.stated m.on))))) in
        let peeled = behind_verdict r.slots r.budget r.program r.verdict (its_cost r) r.on m.slots m.budget m.program m.verdict m.stated m.on tail [] (before_is r v) m.in_limits m.within m.one_a_column behind in
        let none = peeled.1.rest in cc

-- a report's text has no first fault
no_report_fault : (r : ReportContents) (bytes : List ℕ) (n : ℕ) → IsReport r → bytes ≡ report_text r → IsFirstReportFault bytes n → ⊥
unfolding report_text
no_report_fault r bytes n v e (wrong_cost m) = not_misstated r bytes n v e m
no_report_fault r bytes n v e (wrong_line none f) =
    no_text (Begins AreStatedLines) AreStatedLines bytes n stated_format f (record { lines = report_lines r; spelled = e; whole = report_is r v })

-- two verdicts that state wrong costs are one
misstated_one : (bytes : List ℕ) (m n : ℕ) → IsMisstated bytes m → IsMisstated bytes n → m ≡ n
misstated_one bytes m n a b =
    let xs = front_lines a.slots a.budget a.program ++ stated_lines a.verdict a.stated a.on in
    let ys = front_lines b.slots b.budget b.program ++ stated_lines b.verdict b.stated b.on in
    let lack_xs = AllLack-append 10 (front_lines a.slots a.budget a.program) (stated_lines a.verdict a.stated a.on) (front_lack a.slots a.budget a.program a.in_limits) (verdict_lack (length a.program.costs) a.verdict a.stated a.on a.in_limits.program_valid.columns_fit a.one_a_column a.within) in
    let lack_ys = AllLack-append 10 (front_lines b.slots b.budget b.program) (stated_lines b.verdict b.stated b.on) (front_lack b.slots b.budget b.program b.in_limits) (verdict_lack (length b.program.costs) b.verdict b.stated b.on b.in_limits.program_valid.columns_fit b.one_a_column b.within) in
    elim (lie xs ys a.back b.back lack_xs lack_ys (sym a.spelled ∙ b.spelled)) [
      | same t ↦ lengths [] [] (ap (λ k. k ++ []) t)
      | longer y more t ↦ lengths (y ∷ more) [] (sym t ∙ sym (append-nil ys))
      | shorter x more t ↦ lengths [] (x ∷ more) (append-nil xs ∙ t)
    ]
  where
    lengths : (xs ys : List (List ℕ)) → (front_lines a.slots a.budget a.program ++ stated_lines a.verdict a.stated a.on) ++ xs ≡ (front_lines b.slots b.budget b.program ++ stated_lines b.verdict b.stated b.on) ++ ys → m ≡ n
    lengths xs ys e =
        let peeled = front_peel a.slots a.budget b.slots b.budget a.program b.program (stated_lines a.verdict a.stated a.on ++ xs) (stated_lines b.verdict b.stated b.on ++ ys) a.in_limits b.in_limits
        (sym (append_assoc (front_lines a.slots a.budget a.program) (stated_lines a.verdict a.stated a.on) xs) ∙ (e ∙ append_assoc (front_lines b.slots b.budget b.program) (stated_lines b.verdict b.stated b.on) ys)) in
        let as_many : length (front_lines a.slots a.budget a.program) ≡ length (front_lines b.slots b.budget b.program) = ap (λ p. length (front_lines 0 0 p)) peeled.2 in
        omega (arith, a.line, b.line, as_many)

-- no two lines are the first fault
one_report_fault : (bytes : List ℕ) (m n : ℕ) → IsFirstReportFault bytes m → IsFirstReportFault bytes n → m ≡ n
one_report_fault bytes m n (wrong_cost a) (wrong_cost b) = misstated_one bytes m n a b
one_report_fault bytes m n (wrong_cost a) (wrong_line none f) = absurd (none m a)
one_report_fault bytes m n (wrong_line none f) (wrong_cost b) = absurd (none n b)
one_report_fault bytes m n (wrong_line none f) (wrong_line none' g) = one_fault (Begins AreStatedLines) AreStatedLines bytes m n stated_format f g

-- ---- reports by their contents

node_valid : (n : CertNode) → IsNodeText (node_contents n) → IsNode n
node_valid (Branch j) h = h
node_valid (Bound d ms) h = (h.0, h.2)
node_valid (Clash ms) h = h.0
node_valid Left h = tt

nodes_valid : (ns : List CertNode) → All IsNodeText (map node_contents ns) → All IsNode ns
nodes_valid [] h = All-nil IsNode
nodes_valid (n ∷ ns) h =
    All-cons IsNode n ns (node_valid n (All-head IsNodeText (node_contents n) (map node_contents ns) h)) (nodes_valid ns (All-tail IsNodeText (node_contents n) (map node_contents ns) h))

valid_from_report : (q : Report) → IsReport (report_contents q) → IsValidReport q
valid_from_report q v =
    let counted = length-map q.tree.nodes.items node_contents in
    record {
      slots_fit = v.in_limits.slots_fit;
      budget_low = v.in_limits.budget_low;
      budget_high = v.in_limits.budget_high;
      program_valid = valid_from_contents q.z v.in_limits.program_valid;
      one_a_column = v.one_a_column;
      blank = v.blank;
      some_nodes = omega (arith, counted, v.some_nodes);
      few_nodes = omega (arith, counted, v.few_nodes);
      nodes_fit = nodes_valid q.tree.nodes.items v.nodes_fit;
    }

pub valid_answer : (r : Result Report ZoError) → IfOk r (λ q. IsReport (report_contents q)) → IfOk r IsValidReport
valid_answer (Ok q) h = valid_from_report q h
valid_answer (Err e) h = tt

pub given_answer : (bytes : List ℕ) (a : Result Report ZoError) → IfOk a (λ q. IsReport (report_contents q)) → IfOk a (λ q. bytes ≡ report_text (report_contents q)) → IfErr a (IsTrueReportRefusal bytes) → (r : ReportContents) → IsReport r → bytes ≡ report_text r → AnswersReport a r
given_answer bytes (Ok q) valid text err r v e = text_one (report_contents q) r valid v (sym text ∙ e)
given_answer bytes (Err NoMemory) valid text err r v e = tt
given_answer bytes (Err (Bad n)) valid text err r v e = no_report_fault r bytes n v e err

pub bad_answer : (bytes : List ℕ) (a : Result Report ZoError) → IfOk a (λ q. IsReport (report_contents q)) → IfOk a (λ q. bytes ≡ report_text (report_contents q)) → IfErr a (IsTrueReportRefusal bytes) → (n : ℕ) → IsFirstReportFault bytes n → AnswersFault a n
bad_answer bytes (Ok q) valid text err n f = no_report_fault (report_contents q) bytes n valid text f
bad_answer bytes (Err NoMemory) valid text err n f = tt
bad_answer bytes (Err (Bad m)) valid text err n f = one_report_fault bytes m n err f
