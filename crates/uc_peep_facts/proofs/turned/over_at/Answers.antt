use Rattle.std.proofs.Common.{◌+◌, ◌<◌, ◌∙◌, length, sym, arith}
use Rattle.std.proofs.lemmas.Bool.{false≢true}
use Rattle.uc_isa.specs.declared.instruction.Instr.TheVariants.{Br}
use Rattle.uc_peep_facts.proofs.turned.over_at.Goals as goal
use Rattle.uc_peep_facts.proofs.turned.over_at.Goals.{then-x-code-via-then-x-code, then-x-code-via-else-x-code+then-entered-x, then-x-code-via-else-x-code+else-entered-x+then-started-x, then-x-code-via-else-x-code+else-entered-x+else-started-x+then-started-x-2}

pub returns-then-x-code-clause-none : goal.returns-then-x-code-clause-none
returns-then-x-code-clause-none c = λ d y over. elim c.then-x-code.branch [
  | then-x-code-via-then-x-code w ↦
      let inside : c.args.x + 2 < length c.args.code.now = (c.requires.lawful.each c.args.x (Br d (c.args.x + 2)) over.branch).target in
      let past = w.if-x-code.true in
      omega arith
  | then-x-code-via-else-x-code+then-entered-x w ↦ false≢true (sym over.not_entered ∙ w.if-entered-x.true)
  | then-x-code-via-else-x-code+else-entered-x+then-started-x w ↦ false≢true (sym over.not_start ∙ w.if-started-x.true)
  | then-x-code-via-else-x-code+else-entered-x+else-started-x+then-started-x-2 w ↦ false≢true (sym over.next_not_start ∙ w.if-started-x-2.true)
]
