use Rattle.std.proofs.Common.{ℕ, List}
use Rattle.std.specs.Io.KnownBytes.{Consumes}
use Rattle.nv_lines.specs.Line.{Lacks}
use Rattle.nova_lsp.specs.HeadLines.{IsKept}
use Rattle.nova_lsp.proofs.head.Line.read.Given as goal

-- the front of the line was taken
abbrev pub invariant-loop : goal.invariant-loop
invariant-loop g l = (line : List ℕ) × Lacks 10 line × IsKept l.self line × Consumes (g.R.Read.remaining l.initial.input) (g.R.Read.remaining l.input) line
