use Rattle.std.proofs.Common.{length}
use Rattle.zo_cert_tree.proofs.ReadMultipliers.{ReadsMultipliers}
use Rattle.zo_cert_tree.proofs.multipliers.multipliers_of.Given as goal

abbrev pub invariant-loop-part : goal.invariant-loop-part
invariant-loop-part l = ReadsMultipliers l.initial.parts l.parts l.multipliers.items l.low

abbrev pub decreases-loop-part : goal.decreases-loop-part
decreases-loop-part l = length l.parts
