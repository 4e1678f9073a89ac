use Rattle.std.proofs.Common.{◌≡◌, ℕ, ◌+◌, List, length}
use Rattle.std.specs.Io.KnownBytes.{Consumes}
use Rattle.nova_lsp.specs.Reading.{IsKeptOf}
use Rattle.nova_lsp.proofs.frame.content.Given as goal

-- what was taken and what is left are as many as are told, and what was taken is kept
abbrev pub invariant-loop : goal.invariant-loop
invariant-loop g l = (front : List ℕ) × Consumes (g.R.Read.remaining l.initial.input) (g.R.Read.remaining l.input) front × (length front + l.left ≡ l.count) × IsKeptOf l.count l.kept front
