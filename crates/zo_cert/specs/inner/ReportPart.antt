-- the parts of a report's text, and where bytes stop to begin one
use Rattle.std.specs.Prelude.{◌≡◌, ◌≢◌, ℕ, ◌+◌, ◌<◌, ◌≤◌, ◌^◌, List, [], ◌∷◌, ◌++◌, length, Bool, All, codes, decimal}
use Rattle.nv_lines.specs.Line.{text_of}
use Rattle.nv_lines.specs.Format.{Begins}
use Rattle.zo_model.specs.inner.LineFault.{NoLine}
use Rattle.zo_model.specs.Program.{vector, costs_of}
use Rattle.zo_model.specs.declared.error.ZoError.{ZoError}
use Rattle.zo_model.specs.declared.error.ZoError.TheVariants.{NoMemory, Bad}
use Rattle.zo_cert_tree.specs.Node.{Node, IsNodeText}
use Rattle.zo_cert.specs.Report.{IsBlank}
use Rattle.zo_cert.specs.ReportText.{counted_line, x_line}
use Rattle.zo_cert.specs.ReportFault.{HasCost, stated_lines, tree_lines}
use Rattle.zo_cert.specs.inner.ReportLine.{IsOnesLine}
use Rattle.zo_cert.specs.declared.report.Verdict.{Verdict}

-- the lines before the program
pub record AreFrontLines (ls : List (List ℕ)) : Type 0 where
  pub slots : ℕ
  pub budget : ℕ
  pub slots_fit : slots ≤ 128
  pub budget_low : 1 ≤ budget
  pub budget_high : budget ≤ 1000000
  pub lines : ls ≡ codes "novareport 1" ∷ counted_line (codes "slots") slots ∷ counted_line (codes "budget") budget ∷ []

-- a verdict over n columns, which may state any cost
pub record AreVerdictLines (n : ℕ) (ls : List (List ℕ)) : Type 0 where
  pub verdict : Verdict
  pub stated : ℕ
  pub on : List Bool
  pub within : stated < 2 ^ 64
  pub one_a_column : length on ≡ n
  pub blank : IsBlank verdict on
  pub lines : ls ≡ stated_lines verdict stated on

-- a tree
pub record AreTreeLines (ls : List (List ℕ)) : Type 0 where
  pub nodes : List Node
  pub some_nodes : 1 ≤ length nodes
  pub few_nodes : length nodes < 2 ^ 32
  pub nodes_fit : All IsNodeText nodes
  pub lines : ls ≡ tree_lines nodes

-- The lines `front` begin a text of this kind, and some line more; but the next line isn't there, or isn't one more.
pub record StopsAt (Kind : List (List ℕ) → Type 0) (bytes : List ℕ) (front : List (List ℕ)) : Type 0 where
  pub rest : List ℕ
  pub spelled : bytes ≡ text_of front ++ rest
  pub next : List ℕ
  pub goes_on : Begins Kind (front ++ next ∷ [])
  pub no_line : NoLine (λ line. Begins Kind (front ++ line ∷ [])) rest

-- memory exhaustion, or the number of the line at which the bytes stop, counted behind so many
abbrev pub IsStop : (List (List ℕ) → Type 0) → List ℕ → ℕ → ZoError → Type 0
IsStop Kind bytes number NoMemory = Unit {0}
IsStop Kind bytes number (Bad n) = (front : List (List ℕ)) × (n ≡ number + (length front + 1)) × StopsAt Kind bytes front

-- columns that can be read stand first, and this isn't their cost
pub record IsOtherCost (costs : List ℕ) (stated : ℕ) (bytes : List ℕ) : Type 0 where
  pub on : List Bool
  pub back : List ℕ
  pub one_a_column : length on ≡ length costs
  pub not_its_cost : stated ≢ costs_of costs (vector on)
  pub spelled : bytes ≡ x_line on ++ 10 ∷ back

-- Behind a verdict in line `at` that states a cost by these bytes: they are no number, or the next line isn't one of
-- columns, or its cost is another one.
pub data CostedFault (costs : List ℕ) (stated : List ℕ) (at : ℕ) (bytes : List ℕ) (number : ℕ) : ℕ → Type 0 where
  no_number : ((c : ℕ) → c < 2 ^ 64 → stated ≢ decimal c) → CostedFault costs stated at bytes number at
  no_columns : (c : ℕ) → c < 2 ^ 64 → stated ≡ decimal c → NoLine (IsOnesLine (length costs)) bytes → CostedFault costs stated at bytes number (number + 1)
  other_cost : (c : ℕ) → c < 2 ^ 64 → stated ≡ decimal c → IsOtherCost costs c bytes → CostedFault costs stated at bytes number at

abbrev pub IsCostedFault : List ℕ → List ℕ → ℕ → List ℕ → ℕ → ZoError → Type 0
IsCostedFault costs stated at bytes number NoMemory = Unit {0}
IsCostedFault costs stated at bytes number (Bad n) = CostedFault costs stated at bytes number n

-- a verdict with a cost and its columns stand first, and the cost is another one
pub record MisstatesCost (costs : List ℕ) (bytes : List ℕ) : Type 0 where
  pub verdict : Verdict
  pub stated : ℕ
  pub on : List Bool
  pub back : List ℕ
  pub has_cost : HasCost verdict
  pub within : stated < 2 ^ 64
  pub one_a_column : length on ≡ length costs
  pub not_its_cost : stated ≢ costs_of costs (vector on)
  pub spelled : bytes ≡ text_of (stated_lines verdict stated on) ++ back

-- the bytes stop to begin a verdict, or the verdict's line, the first, states a wrong cost
pub data VerdictFault (costs : List ℕ) (bytes : List ℕ) (number n : ℕ) : Type 0 where
  stops : (front : List (List ℕ)) → n ≡ number + (length front + 1) → StopsAt (AreVerdictLines (length costs)) bytes front → VerdictFault costs bytes number n
  misstates : n ≡ number + 1 → MisstatesCost costs bytes → VerdictFault costs bytes number n

abbrev pub IsVerdictFault : List ℕ → List ℕ → ℕ → ZoError → Type 0
IsVerdictFault costs bytes number NoMemory = Unit {0}
IsVerdictFault costs bytes number (Bad n) = VerdictFault costs bytes number n
