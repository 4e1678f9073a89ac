use Rattle.uc_peep.specs.Draft.{IsPut}
use Rattle.uc_peep.proofs.windows.put.Given as goal

abbrev pub invariant-loop-j : goal.invariant-loop-j
invariant-loop-j l = IsPut l.p l.j l.shorter l.initial.code l.code l.initial.gone l.gone
