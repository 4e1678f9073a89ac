use Rattle.std.proofs.Common.{◌≤◌}
use Rattle.flow_ir.specs.declared.flow.Tree.{size-Tree}
use Rattle.flow_ir.proofs.flow.Tree.+drop.Given as goal

abbrev pub invariant-spine : goal.invariant-spine
invariant-spine l = size-Tree l.self ≤ size-Tree l.initial.self
