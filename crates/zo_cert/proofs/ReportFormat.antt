-- the format of a report's lines, where the verdict may state any cost
use Rattle.std.proofs.Common.{◌≡◌, ℕ, suc, ◌^◌, ◌<◌, ◌≤◌, List, [], ◌∷◌, ◌++◌, length, map, refl, sym, ap, ◌∙◌, subst, arith, append_assoc, codes, decimal, lit≤, Bool}
use Rattle.std.specs.List.{All}
use Rattle.std.proofs.lemmas.List.{append-nil}
use Rattle.std.proofs.lemmas.List.Elements.{All-head, All-tail}
use Rattle.nv_lines.specs.Line.{Lacks, AllLack}
use Rattle.nv_lines.specs.Format.{Begins, IsFormat}
use Rattle.nv_lines.proofs.SplitLaws.{Lacks-append, Lacks-parted, Lacks-test, AllLack-append}
use Rattle.nv_lines.proofs.NumberLaws.{Lacks-decimal}
use Rattle.nv_lines.proofs.FormatLaws.{begins_format}
use Rattle.zo_model.specs.Contents.{Contents}
use Rattle.zo_model.specs.Program.{Rise}
use Rattle.zo_model.proofs.ExactLemmas.{program_lack}
use Rattle.zo_cert_tree.specs.Node.{Node, branch_on, bound_by, clash_of, left_open, multiplier_text, node_line, IsNodeText}
use Rattle.zo_cert.specs.Contents.{ReportContents}
use Rattle.zo_cert.specs.ReportText.{counted_line, ones_from, x_line}
use Rattle.zo_cert.specs.ReportFault.{AreInLimits, IsReport, HasCost, front_lines, stated_lines, tree_lines, AreStatedLines}
use Rattle.zo_cert.specs.declared.report.Verdict.{Verdict}
use Rattle.zo_cert.specs.declared.report.Verdict.TheVariants as verdicts
use Rattle.zo_cert.proofs.ReadPieces.{Up}
use Rattle.zo_cert.proofs.OnesLemmas.{ones_up}
use Rattle.zo_cert.proofs.ReportPeel.{front_peel, verdict_peel, tree_peel}

-- ---- no line has a line feed in it

pub counted_lacks : (name : List ℕ) (n : ℕ) → Lacks 10 name → n < 2 ^ 64 → Lacks 10 (counted_line name n)
counted_lacks name n h small = Lacks-parted 10 (name ∷ decimal n ∷ []) (λ e. omega (arith, e)) (h, (Lacks-decimal 10 n (lit≤ tt) small, tt))

pub front_lack : (s b : ℕ) (p : Contents) → AreInLimits s b p → AllLack 10 (front_lines s b p)
front_lack s b p h = (
  Lacks-test 10 (codes "novareport 1") refl,
  (
    counted_lacks (codes "slots") s (Lacks-test 10 (codes "slots") refl) (omega (arith, h.slots_fit)),
    (counted_lacks (codes "budget") b (Lacks-test 10 (codes "budget") refl) (omega (arith, h.budget_high)), program_lack p h.program_valid),
  ),
)

decimals_lack : (lo n : ℕ) (js : List ℕ) → n ≤ 2 ^ 26 → Up lo n js → AllLack 10 (map decimal js)
decimals_lack lo n [] few u = tt
decimals_lack lo n (j ∷ js) few u = (Lacks-decimal 10 j (lit≤ tt) (omega (arith, u.1)), decimals_lack (suc j) n js few u.2)

x_line_lacks : (n : ℕ) (on : List Bool) → n ≤ 2 ^ 26 → length on ≡ n → Lacks 10 (x_line on)
x_line_lacks n on few l =
    Lacks-parted 10 (codes "x" ∷ map decimal (ones_from 0 on)) (λ e. omega (arith, e)) (Lacks-test 10 (codes "x") refl, decimals_lack 0 n (ones_from 0 on) few (ones_up 0 n on (omega arith)))

pub verdict_lack : (n : ℕ) (v : Verdict) (c : ℕ) (on : List Bool) → n ≤ 2 ^ 26 → length on ≡ n → c < 2 ^ 64 → AllLack 10 (stated_lines v c on)
verdict_lack n verdicts.Optimal c on few l small =
    (Lacks-parted 10 (codes "verdict" ∷ codes "optimal" ∷ decimal c ∷ []) (λ e. omega (arith, e)) (Lacks-test 10 (codes "verdict") refl, (Lacks-test 10 (codes "optimal") refl, (Lacks-decimal 10 c (lit≤ tt) small, tt))), (x_line_lacks n on few l, tt))
verdict_lack n verdicts.Feasible c on few l small =
    (Lacks-parted 10 (codes "verdict" ∷ codes "feasible" ∷ decimal c ∷ []) (λ e. omega (arith, e)) (Lacks-test 10 (codes "verdict") refl, (Lacks-test 10 (codes "feasible") refl, (Lacks-decimal 10 c (lit≤ tt) small, tt))), (x_line_lacks n on few l, tt))
verdict_lack n verdicts.Infeasible c on few l small = (Lacks-test 10 (codes "verdict infeasible") refl, tt)
verdict_lack n verdicts.Spent c on few l small = (Lacks-test 10 (codes "verdict spent") refl, tt)

multipliers_lack : (lo : ℕ) (ms : List (ℕ × ℕ)) → Rise lo (2 ^ 26) ms → All (λ m. m.1 < 2 ^ 32) ms → AllLack 10 (map multiplier_text ms)
multipliers_lack lo [] r h = tt
multipliers_lack lo (m ∷ ms) r h = (
  Lacks-append 10 (decimal m.0) (58 ∷ decimal m.1) (Lacks-decimal 10 m.0 (lit≤ tt) (omega (arith, r.1))) (λ e. omega (arith, e), Lacks-decimal 10 m.1 (lit≤ tt) (omega (arith, All-head (λ m. m.1 < 2 ^ 32) m ms h))),
  multipliers_lack (suc m.0) ms r.2 (All-tail (λ m. m.1 < 2 ^ 32) m ms h),
)

node_lacks : (n : Node) → IsNodeText n → Lacks 10 (node_line n)
node_lacks (branch_on j) h = counted_lacks (codes "b") j (Lacks-test 10 (codes "b") refl) (omega (arith, h))
node_lacks (bound_by d ms) h =
    Lacks-parted 10 (codes "d" ∷ decimal d ∷ map multiplier_text ms) (λ e. omega (arith, e)) (Lacks-test 10 (codes "d") refl, (Lacks-decimal 10 d (lit≤ tt) (omega (arith, h.1)), multipliers_lack 0 ms h.2.rise h.3))
node_lacks (clash_of ms) h = Lacks-parted 10 (codes "k" ∷ map multiplier_text ms) (λ e. omega (arith, e)) (Lacks-test 10 (codes "k") refl, multipliers_lack 0 ms h.0.rise h.1)
node_lacks left_open h = Lacks-test 10 (codes "o") refl

nodes_lack : (ns : List Node) → All IsNodeText ns → AllLack 10 (map node_line ns)
nodes_lack [] h = tt
nodes_lack (n ∷ ns) h = (node_lacks n (All-head IsNodeText n ns h), nodes_lack ns (All-tail IsNodeText n ns h))

pub tree_lack : (ns : List Node) → length ns < 2 ^ 32 → All IsNodeText ns → AllLack 10 (tree_lines ns)
tree_lack ns few h = (counted_lacks (codes "tree") (length ns) (Lacks-test 10 (codes "tree") refl) (omega arith), nodes_lack ns h)

pub stated_lack : (ls : List (List ℕ)) → AreStatedLines ls → AllLack 10 ls
stated_lack ls a =
    let r = a.report in
    let v = a.valid in
    subst (AllLack 10) (sym a.lines)
    (AllLack-append 10 (front_lines r.slots r.budget r.program ++ stated_lines r.verdict a.stated r.on) (tree_lines r.nodes)
    (AllLack-append 10 (front_lines r.slots r.budget r.program) (stated_lines r.verdict a.stated r.on) (front_lack r.slots r.budget r.program v.in_limits) (verdict_lack (length r.program.costs) r.verdict a.stated r.on v.in_limits.program_valid.columns_fit v.one_a_column a.within))
    (tree_lack r.nodes v.few_nodes v.nodes_fit))

pub stated_format : IsFormat (Begins AreStatedLines) AreStatedLines
stated_format = begins_format AreStatedLines stated_lack

-- ---- the lines of a report, part by part

-- how the parts of two lists of lines agree, the first going on by some lines
pub record SameParts (a b : ReportContents) (c d : ℕ) (xs ys : List (List ℕ)) : Type 0 where
  pub slots : a.slots ≡ b.slots
  pub budget : a.budget ≡ b.budget
  pub program : a.program ≡ b.program
  pub verdict : a.verdict ≡ b.verdict
  pub cost : HasCost a.verdict → c ≡ d
  pub on : HasCost a.verdict → a.on ≡ b.on
  pub nodes : a.nodes ≡ b.nodes
  pub rest : xs ≡ ys

-- four lists, one after the other
regrouped : (a b c d : List (List ℕ)) → ((a ++ b) ++ c) ++ d ≡ a ++ (b ++ (c ++ d))
regrouped a b c d = append_assoc (a ++ b) c d ∙ append_assoc a b (c ++ d)

pub report_peel : (a b : ReportContents) (c d : ℕ) (xs ys : List (List ℕ)) → IsReport a → IsReport b → c < 2 ^ 64 → d < 2 ^ 64
    → (front_lines a.slots a.budget a.program ++ stated_lines a.verdict c a.on ++ tree_lines a.nodes) ++ xs ≡ (front_lines b.slots b.budget b.program ++ stated_lines b.verdict d b.on ++ tree_lines b.nodes) ++ ys
    → SameParts a b c d xs ys
report_peel a b c d xs ys v w hc hd e =
    let sa = stated_lines a.verdict c a.on in
    let sb = stated_lines b.verdict d b.on in
    let ta = tree_lines a.nodes in
    let tb = tree_lines b.nodes in
    let f = front_peel a.slots a.budget b.slots b.budget a.program b.program (sa ++ (ta ++ xs)) (sb ++ (tb ++ ys)) v.in_limits w.in_limits
    (sym (regrouped (front_lines a.slots a.budget a.program) sa ta xs) ∙ (e ∙ regrouped (front_lines b.slots b.budget b.program) sb tb ys)) in
    let g = verdict_peel (length a.program.costs) a.verdict b.verdict c d a.on b.on (ta ++ xs) (tb ++ ys) v.in_limits.program_valid.columns_fit hc hd v.one_a_column
    (w.one_a_column ∙ ap (λ p. length p.costs) (sym f.2)) f.3 in
    let h = tree_peel a.nodes b.nodes xs ys v.few_nodes w.few_nodes v.nodes_fit w.nodes_fit g.rest in
    record { slots = f.0; budget = f.1; program = f.2; verdict = g.verdict; cost = g.cost; on = g.columns; nodes = h.0; rest = h.1 }

-- no such text goes on after another's
pub stated_ends : (ls : List (List ℕ)) (x : List ℕ) (more : List (List ℕ)) → AreStatedLines ls → AreStatedLines (ls ++ x ∷ more) → ⊥
stated_ends ls x more a b =
    let p = report_peel a.report b.report a.stated b.stated (x ∷ more) [] a.valid b.valid a.within b.within
    (ap (λ t. t ++ x ∷ more) (sym a.lines) ∙ (b.lines ∙ sym (append-nil (front_lines b.report.slots b.report.budget b.report.program ++ stated_lines b.report.verdict b.stated b.report.on ++ tree_lines b.report.nodes)))) in
    let e = p.rest in cc
