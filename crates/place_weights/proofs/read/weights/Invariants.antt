use Rattle.std.proofs.Common.{◌≡◌, map, take}
use Rattle.place_weights.specs.WeightsText.{clamped}
use Rattle.place_weights.proofs.read.weights.Given as goal

abbrev pub invariant-loop-count : goal.invariant-loop-count
invariant-loop-count l = l.list.items ≡ map clamped (take l.count-index l.counts)
