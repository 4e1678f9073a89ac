use Rattle.uc_peep.specs.Draft.{IsPassing}
use Rattle.uc_peep.proofs.draft.pass.Given as goal

abbrev pub invariant-loop-p : goal.invariant-loop-p
invariant-loop-p g l = IsPassing (g.R.Window.answers l.r) l.initial.code l.starts l.entered l.started l.initial.gone l.initial.sets l.code l.gone l.sets l.changed l.p
