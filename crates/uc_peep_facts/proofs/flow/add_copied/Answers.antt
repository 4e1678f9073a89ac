use Rattle.std.proofs.Common.{sym, subst}
use Rattle.uc_isa.specs.declared.instruction.Instr.TheVariants.{Un}
use Rattle.uc_isa.specs.declared.instruction.UnOp.TheVariants.{Copy}
use Rattle.uc_peep_facts.specs.Facts.{Gives, known}
use Rattle.uc_peep_facts.proofs.flow.add_copied.Goals as goal
use Rattle.uc_peep_facts.proofs.flow.add_copied.Goals.{in-Some, in_default}

pub loop-k-preserved : goal.loop-k-preserved
loop-k-preserved c = elim c.match-get.branch [
  | in-Some w ↦ subst (λ l. Gives (Un c.args.d.now Copy c.args.x.now) (known c.args.before.now) (known l)) (sym w.after-is) w.copy_one.ensures
  | in_default w ↦ subst (λ l. Gives (Un c.args.d.now Copy c.args.x.now) (known c.args.before.now) (known l)) (sym w.after-is) c.loop-k.invariant
]
