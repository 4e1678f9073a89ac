use Rattle.std.proofs.Common.{take}
use Rattle.nv_base.specs.Sets.{all_vars}
use Rattle.cps_rules.specs.inner.Marks.{marked_in, Adds}
use Rattle.cps_rules.proofs.marks.Marks.add_all.Given as goal

abbrev pub invariant-loop-a : goal.invariant-loop-a
invariant-loop-a l = Adds (all_vars (take l.a-index l.atoms)) (marked_in l.initial.self.rounds.items l.initial.self.round) (marked_in l.self.rounds.items l.self.round)
