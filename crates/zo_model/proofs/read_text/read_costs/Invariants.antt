use Rattle.std.proofs.Common.{◌≡◌, length}
use Rattle.zo_model.proofs.CostLemmas.{HasCosts}
use Rattle.zo_model.proofs.read_text.read_costs.Given as goal

abbrev pub invariant-loop : goal.invariant-loop
invariant-loop l = (length l.costs.items ≡ l.counter) × HasCosts l.initial.reader.lines l.reader.lines l.costs.items l.initial.reader.number l.reader.number
