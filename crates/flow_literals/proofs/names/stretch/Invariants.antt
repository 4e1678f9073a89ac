use Rattle.std.proofs.Common.{◌≡◌, ◌+◌}
use Rattle.std.specs.List.{range_with_len}
use Rattle.flow_literals.proofs.names.stretch.Given as goal

abbrev pub invariant-loop : goal.invariant-loop
invariant-loop l = (l.next ≡ l.first + l.counter) × (l.v.items ≡ range_with_len l.first l.counter)
