use Rattle.std.proofs.Common.{◌≡◌, length}
use Rattle.nova_texts.proofs.sarif.results_of.Given as goal

abbrev pub invariant-loop-finding : goal.invariant-loop-finding
invariant-loop-finding l = length l.results.items ≡ l.finding-index
