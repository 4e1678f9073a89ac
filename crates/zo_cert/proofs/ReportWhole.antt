-- a report that is read part by part
use Rattle.std.proofs.Common.{◌≡◌, ℕ, ◌+◌, ◌^◌, ◌<◌, ◌≤◌, List, [], ◌++◌, length, map, refl, ap, ◌∙◌, arith, Bool}
use Rattle.std.specs.List.{All}
use Rattle.std.proofs.lemmas.List.{length-append, length-map}
use Rattle.nv_lines.specs.Line.{text_of}
use Rattle.zo_model.specs.Contents.{Contents, contents}
use Rattle.zo_model.specs.Program.{vector, costs_of}
use Rattle.zo_model.specs.ProgramText.{program_lines, IsValidContents}
use Rattle.zo_model.specs.declared.error.ZoError.{ZoError}
use Rattle.zo_model.proofs.ExactLemmas.{contents_fit}
use Rattle.zo_model.proofs.FaultLemmas.{spelled_more}
use Rattle.zo_cert_tree.specs.Node.{node_contents, node_line, IsNodeText}
use Rattle.zo_cert.specs.Contents.{report_contents}
use Rattle.zo_cert.specs.Report.{IsBlank, IsValidReport}
use Rattle.zo_cert.specs.ReportText.{verdict_lines}
use Rattle.zo_cert.specs.ReportFault.{AreInLimits, IsReport, front_lines, stated_lines, tree_lines, IsFirstReportFault}
use Rattle.zo_cert.specs.ReportAnswer.{IsTrueReportRefusal}
use Rattle.zo_cert.specs.inner.ReportPart.{AreTreeLines, IsStop}
use Rattle.zo_cert.specs.declared.report.Report.{Report}
use Rattle.zo_cert.specs.declared.report.Verdict.{Verdict}
use Rattle.zo_cert.proofs.ReportRefusals.{three_lines}
use Rattle.zo_cert.proofs.ReportEndings.{tree_refusal}
use Rattle.zo_cert.proofs.ReportAnswers.{verdict_states, costs_fit, end_refusal}

-- the front and the program
pub before_verdict : (bytes r3 r4 : List ℕ) (s b : ℕ) (p : Contents) → bytes ≡ text_of (three_lines s b) ++ r3 → r3 ≡ text_of (program_lines p) ++ r4 → bytes ≡ text_of (front_lines s b p) ++ r4
before_verdict bytes r3 r4 s b p e f = spelled_more bytes r3 r4 (three_lines s b) (program_lines p) e f

-- the front, the program and the verdict
before_tree : (bytes r3 r4 r5 : List ℕ) (s b : ℕ) (p : Contents) (v : Verdict) (on : List Bool) → bytes ≡ text_of (three_lines s b) ++ r3 → r3 ≡ text_of (program_lines p) ++ r4 → r4 ≡ text_of (verdict_lines v p.costs on) ++ r5 → bytes ≡ text_of (front_lines s b p ++ verdict_lines v p.costs on) ++ r5
before_tree bytes r3 r4 r5 s b p v on e f g = spelled_more bytes r4 r5 (front_lines s b p) (verdict_lines v p.costs on) (before_verdict bytes r3 r4 s b p e f) g

pub read_tree_refusal : (bytes r3 r4 r5 : List ℕ) (n3 n4 n5 s b : ℕ) (p : Contents) (v : Verdict) (on : List Bool) (e : ZoError) → AreInLimits s b p → length on ≡ length p.costs → IsBlank v on → bytes ≡ text_of (three_lines s b) ++ r3 → r3 ≡ text_of (program_lines p) ++ r4 → r4 ≡ text_of (verdict_lines v p.costs on) ++ r5
    → n3 ≡ 3 → n4 ≡ n3 + length (program_lines p) → n5 ≡ n4 + length (verdict_lines v p.costs on) → IsStop AreTreeLines r5 n5 e → IsTrueReportRefusal bytes e
read_tree_refusal bytes r3 r4 r5 n3 n4 n5 s b p v on e h l blank e1 e2 e3 c1 c2 c3 stop =
    let cost = costs_of p.costs (vector on) in
    let states = verdict_states v p.costs on in
    tree_refusal bytes r5 n5 s b p v cost on e (record { in_limits = h; within = costs_fit p on h.program_valid; one_a_column = l; blank = blank; truly = λ _. refl })
    (before_tree bytes r3 r4 r5 s b p v on e1 e2 e3 ∙ ap (λ t. text_of (front_lines s b p ++ t) ++ r5) states)
    (omega (arith, c1, c2, c3, ap length states, length-append (front_lines s b p) (stated_lines v cost on))) stop

-- what was read is a report
pub report_made : (q : Report) → q.slots ≤ 128 → 1 ≤ q.budget → q.budget ≤ 1000000 → IsValidContents (contents q.z) → length q.x.on.items ≡ length q.z.costs.items → IsBlank q.verdict q.x.on.items → 1 ≤ length q.tree.nodes.items → length q.tree.nodes.items < 2 ^ 32 → All IsNodeText (map node_contents q.tree.nodes.items) → IsReport (report_contents q)
report_made q slots low high program columns blank some few fit =
    let counted = length-map q.tree.nodes.items node_contents in
    record {
      in_limits = record { slots_fit = slots; budget_low = low; budget_high = high; program_valid = program };
      one_a_column = columns;
      blank = blank;
      some_nodes = omega (arith, counted, some);
      few_nodes = omega (arith, counted, few);
      nodes_fit = fit;
    }

-- something stands after it
pub behind_report : (bytes r3 r4 r5 r7 : List ℕ) (n3 n4 n5 n7 : ℕ) (q : Report) → IsReport (report_contents q) → bytes ≡ text_of (three_lines q.slots q.budget) ++ r3 → r3 ≡ text_of (program_lines (contents q.z)) ++ r4 → r4 ≡ text_of (verdict_lines q.verdict q.z.costs.items q.x.on.items) ++ r5
    → r5 ≡ text_of (tree_lines (map node_contents q.tree.nodes.items)) ++ r7 → (r7 ≡ [] → ⊥) → n3 ≡ 3 → n4 ≡ n3 + length (program_lines (contents q.z)) → n5 ≡ n4 + length (verdict_lines q.verdict q.z.costs.items q.x.on.items) → n7 ≡ n5 + (1 + length q.tree.nodes.items) → IsFirstReportFault bytes (n7 + 1)
behind_report bytes r3 r4 r5 r7 n3 n4 n5 n7 q v e1 e2 e3 e4 some c1 c2 c3 c4 =
    let front = front_lines q.slots q.budget (contents q.z) in
    let verdict = verdict_lines q.verdict q.z.costs.items q.x.on.items in
    let nodes = map node_contents q.tree.nodes.items in
    end_refusal (report_contents q) bytes r7 (n7 + 1) v (spelled_more bytes r5 r7 (front ++ verdict) (tree_lines nodes) (before_tree bytes r3 r4 r5 q.slots q.budget (contents q.z) q.verdict q.x.on.items e1 e2 e3) e4) some
    (omega (arith, c1, c2, c3, c4, length-map q.tree.nodes.items node_contents, length-map nodes node_line, length-append (front ++ verdict) (tree_lines nodes), length-append front verdict))

-- a valid report whose nodes keep the limits of their type, by its contents
pub report_fits : (q : Report) → IsValidReport q → All IsNodeText (map node_contents q.tree.nodes.items) → IsReport (report_contents q)
report_fits q v fit = report_made q v.slots_fit v.budget_low v.budget_high (contents_fit q.z v.program_valid) v.one_a_column v.blank v.some_nodes v.few_nodes fit
