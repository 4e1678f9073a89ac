use Rattle.std.proofs.Common.{◌≡◌, ◌+◌, drop, take}
use Rattle.uc_isa.specs.StraightCode.{weights}
use Rattle.nova_show.specs.Kinds.{AreNumbers, AreParts, cost_of}
use Rattle.nova_show.proofs.counts.counts_of.Given as goal

abbrev pub invariant-loop-i : goal.invariant-loop-i
invariant-loop-i l = AreParts l.counts × (l.counts.all ≡ l.i-index) × (cost_of l.counts + weights (drop l.i-index l.list) ≡ weights l.list) × AreNumbers l.counts (take l.i-index l.list)
