use Rattle.std.proofs.Common.{◌≡◌, map, take, slice_index_or}
use Rattle.ucode_emit.proofs.settle.places_of.Given as goal

abbrev pub invariant-loop-k : goal.invariant-loop-k
invariant-loop-k l = l.list.items ≡ map (λ j. slice_index_or l.places j 0) (take l.k-index l.points)
