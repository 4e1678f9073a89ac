use Rattle.std.proofs.Common.{◌≡◌, ◌++◌, drop}
use Rattle.std.specs.Prelude.{slice_index}
use Rattle.uc_peep.specs.Kept.{compacted}
use Rattle.uc_peep.proofs.compacting.compact.Given as goal

abbrev pub invariant-loop-x : goal.invariant-loop-x
invariant-loop-x l = l.v.items ++ compacted (λ x. slice_index l.counts x) (drop l.x l.gone) (drop l.x l.code) ≡ compacted (λ x. slice_index l.counts x) l.gone l.code
