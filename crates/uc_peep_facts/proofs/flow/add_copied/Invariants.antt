use Rattle.uc_isa.specs.declared.instruction.Instr.TheVariants.{Un}
use Rattle.uc_isa.specs.declared.instruction.UnOp.TheVariants.{Copy}
use Rattle.uc_peep_facts.specs.Facts.{Gives, known}
use Rattle.uc_peep_facts.proofs.flow.add_copied.Given as goal

abbrev pub invariant-loop-k : goal.invariant-loop-k
invariant-loop-k l = Gives (Un l.d Copy l.x) (known l.before) (known l.after)
