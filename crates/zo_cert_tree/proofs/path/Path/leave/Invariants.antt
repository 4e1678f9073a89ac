use Rattle.std.proofs.Common.{◌≡◌, ◌-◌, length, drop}
use Rattle.zo_cert_tree.specs.inner.Path.{later, KeepsPlace}
use Rattle.zo_cert_tree.proofs.path.Path.leave.Given as goal

abbrev pub invariant-loop-self : goal.invariant-loop-self
invariant-loop-self l = record {
  still_open : l.self-inside.is_open ≡ l.initial.self-inside.is_open;
  same_costs : l.self-inside.costs.items ≡ l.initial.self-inside.costs.items;
  place : KeepsPlace l.self-inside.costs.items l.self-inside.fixed.at.items l.self-inside.stack.items l.self-inside.top l.self-inside.spent;
  same : later l.self-inside.fixed.at.items (drop l.self-inside.top l.self-inside.stack.items) ≡ later l.initial.self-inside.fixed.at.items (drop l.initial.self-inside.top l.initial.self-inside.stack.items);
}

abbrev pub decreases-loop-self : goal.decreases-loop-self
decreases-loop-self l = length l.self-inside.stack.items - l.self-inside.top
