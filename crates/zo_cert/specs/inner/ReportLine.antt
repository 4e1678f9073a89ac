-- a line that has to come next in a report's text
use Rattle.std.specs.Prelude.{◌≡◌, ℕ, ◌+◌, ◌<◌, List, ◌++◌, length, map, Bool, All}
use Rattle.nv_lines.specs.Line.{text_of}
use Rattle.zo_model.specs.inner.LineFault.{NoLine}
use Rattle.zo_model.specs.declared.error.ZoError.{ZoError}
use Rattle.zo_model.specs.declared.error.ZoError.TheVariants.{NoMemory, Bad}
use Rattle.zo_cert_tree.specs.Node.{Node, IsNodeText, node_line}
use Rattle.zo_cert_tree.specs.inner.NodeLine.{IsNodeLine}
use Rattle.zo_cert.specs.ReportText.{x_line}

-- the columns of n that are 1
pub record IsOnesLine (n : ℕ) (line : List ℕ) : Type 0 where
  pub on : List Bool
  pub one_a_column : length on ≡ n
  pub spelled : line ≡ x_line on

-- some nodes were read, and the next one wasn't
pub record StopsAtNode (count : ℕ) (bytes : List ℕ) (nodes : List Node) : Type 0 where
  pub rest : List ℕ
  pub fewer : length nodes < count
  pub fit : All IsNodeText nodes
  pub spelled : bytes ≡ text_of (map node_line nodes) ++ rest
  pub no_line : NoLine IsNodeLine rest

-- memory exhaustion, or the number of the line at which the nodes stop, counted behind so many
abbrev pub IsNodeFault : ℕ → List ℕ → ℕ → ZoError → Type 0
IsNodeFault count bytes number NoMemory = Unit {0}
IsNodeFault count bytes number (Bad k) = (nodes : List Node) × (k ≡ number + (length nodes + 1)) × StopsAtNode count bytes nodes
