use Rattle.std.proofs.Common.{◌≡◌, map, take}
use Rattle.std.specs.Prelude.{slice_index}
use Rattle.uc_peep.proofs.compacting.move_starts.Given as goal

abbrev pub invariant-loop-s : goal.invariant-loop-s
invariant-loop-s l = l.v.items ≡ map (λ s. slice_index l.counts s) (take l.s-index l.starts)
