-- what a report contains: two reports are the same where their contents are equal
use Rattle.std.specs.Prelude.{ℕ, List, map, Bool}
use Rattle.zo_model.specs.Contents.{Contents, contents}
use Rattle.zo_cert_tree.specs.Node.{Node, node_contents}
use Rattle.zo_cert.specs.declared.report.Report.{Report}
use Rattle.zo_cert.specs.declared.report.Verdict.{Verdict}

-- a report with its lists
pub record ReportContents : Type 0 where
  pub slots : ℕ
  pub budget : ℕ
  pub program : Contents
  pub verdict : Verdict
  pub on : List Bool
  pub nodes : List Node

-- what a report contains
abbrev pub report_contents : Report → ReportContents
report_contents r = record {
  slots = r.slots;
  budget = r.budget;
  program = contents r.z;
  verdict = r.verdict;
  on = r.x.on.items;
  nodes = map node_contents r.tree.nodes.items;
}
