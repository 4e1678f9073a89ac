-- The text of a short report, and what a searched tree proves.
use Rattle.std.specs.Prelude.{◌≡◌, ℕ, List, [], ◌∷◌, true, false, Some, None, pos, neg_ℤ, Vec, codes}
use Rattle.std.specs.Global.{Global}
use Rattle.nv_lines.specs.Line.{text_of}
use Rattle.zo_model.specs.declared.program.ZeroOne.{ZeroOne}
use Rattle.zo_cert_tree.specs.Certificate.{Tree, leaf, branch, preorder, HasLeft, Proves}
use Rattle.zo_cert_tree.specs.Fixing.{ones}
use Rattle.zo_cert_tree.specs.Node.{bound_by}
use Rattle.zo_cert_tree.specs.Searched.{GoesDepthFirst, IsSearched, reach}
use Rattle.zo_cert_tree.specs.declared.cert.CertNode.TheVariants.{Clash, Left}
use Rattle.zo_cert_tree.specs.declared.cert.Claim.{Claim}
use Rattle.zo_cert.specs.Contents.{ReportContents}
use Rattle.zo_cert.specs.ReportFault.{IsReport, IsFirstReportFault}
use Rattle.zo_cert.specs.ReportText.{report_text}
use Rattle.zo_cert.specs.declared.report.Verdict.TheVariants.{Optimal}

-- ---- the text

-- one of two columns has to be 1, and the first is the cheaper one: with the multiplier 3 the row is a bound of 3
abbrev pub cheaper_of_two : ReportContents
cheaper_of_two = record {
  slots = 0;
  budget = 1;
  program = record { costs = 3 ∷ 5 ∷ []; rows = record { terms = (0, pos 1) ∷ (1, pos 1) ∷ []; least = pos 1 } ∷ [] };
  verdict = Optimal;
  on = true ∷ false ∷ [];
  nodes = bound_by 1 ((0, 3) ∷ []) ∷ [];
}

-- its lines, with this one as the verdict's
abbrev pub report_with : List ℕ → List ℕ
report_with verdict = text_of (
    codes "novareport 1"
    ∷ codes "slots 0"
    ∷ codes "budget 1"
    ∷ codes "columns 2"
    ∷ codes "rows 1"
    ∷ codes "c 3"
    ∷ codes "c 5"
    ∷ codes "r 1 0:1 1:1"
    ∷ verdict
    ∷ codes "x 0"
    ∷ codes "tree 1"
    ∷ codes "d 1 0:3"
    ∷ [])

-- a report with another cost than that of its columns goes wrong at the verdict's line
pub record ShortReport : Type 0 where
  pub limits : IsReport cheaper_of_two
  pub spelled : report_text cheaper_of_two ≡ report_with (codes "verdict optimal 3")
  pub wrong_cost : IsFirstReportFault (report_with (codes "verdict optimal 4")) 9

-- ---- the search

-- a search that left no node open proves its claim
abbrev pub SearchProves : Type 0
SearchProves = (z : ZeroOne) (claim : Claim) (t : Tree) → IsSearched z claim t → (HasLeft (preorder t) → ⊥) → Proves z t claim

-- where a search was cut off in one arm of a branch, the other arm was left at once or is done
pub record DepthFirst : Type 0 where
  pub cut_off : (ms : Vec (ℕ × ℕ) Global) → GoesDepthFirst (branch 0 (branch 1 (leaf (Clash ms)) (leaf Left)) (leaf Left))
  pub went_on : (ms : Vec (ℕ × ℕ) Global) → GoesDepthFirst (branch 0 (branch 1 (leaf (Clash ms)) (leaf Left)) (branch 1 (leaf (Clash ms)) (leaf Left))) → ⊥

-- an unfixed column counts for what it can add, and is 0 where a node is tried
pub record FixedColumns : Type 0 where
  pub both : reach (None ∷ None ∷ []) ((0, pos 3) ∷ (1, neg_ℤ (pos 2)) ∷ []) ≡ pos 3
  pub second : reach (None ∷ Some true ∷ []) ((0, pos 3) ∷ (1, neg_ℤ (pos 2)) ∷ []) ≡ pos 1
  pub first : reach (Some false ∷ None ∷ []) ((0, pos 3) ∷ (1, neg_ℤ (pos 2)) ∷ []) ≡ pos 0
  pub one : ones (Some true ∷ Some false ∷ None ∷ []) 0 ≡ true
  pub zero : ones (Some true ∷ Some false ∷ None ∷ []) 1 ≡ false
  pub unfixed : ones (Some true ∷ Some false ∷ None ∷ []) 2 ≡ false
