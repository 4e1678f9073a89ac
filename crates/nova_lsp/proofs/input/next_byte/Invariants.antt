use Rattle.std.specs.Io.KnownBytes.{Keeps}
use Rattle.nova_lsp.proofs.input.next_byte.Given as goal

-- nothing was taken yet
abbrev pub invariant-loop : goal.invariant-loop
invariant-loop g l = Keeps (g.R.Read.remaining l.initial.input) (g.R.Read.remaining l.input)
