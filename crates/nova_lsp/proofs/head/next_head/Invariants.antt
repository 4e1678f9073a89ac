use Rattle.std.proofs.Common.{◌≡◌, ℕ, List}
use Rattle.std.specs.Io.KnownBytes.{Consumes}
use Rattle.nv_lines.specs.Line.{text_of}
use Rattle.nova_lsp.specs.Heads.{AreFilled, last_length}
use Rattle.nova_lsp.proofs.head.next_head.Given as goal

-- lines that aren't blank were taken
abbrev pub invariant-loop : goal.invariant-loop
invariant-loop g l = (lines : List (List ℕ)) × AreFilled lines × (l.told ≡ last_length lines) × Consumes (g.R.Read.remaining l.initial.input) (g.R.Read.remaining l.input) (text_of lines)
