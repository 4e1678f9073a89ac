use Rattle.std.proofs.Common.{◌≤◌}
use Rattle.flat_ir.specs.declared.flat.Flat.{size-Flat}
use Rattle.flat_ir.proofs.flat.Flat.+drop.Given as goal

abbrev pub invariant-spine : goal.invariant-spine
invariant-spine l = size-Flat l.self ≤ size-Flat l.initial.self
