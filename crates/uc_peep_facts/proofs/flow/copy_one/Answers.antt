use Rattle.std.proofs.Common.{sym, subst}
use Rattle.uc_isa.specs.declared.instruction.Instr.TheVariants.{Un}
use Rattle.uc_isa.specs.declared.instruction.UnOp.TheVariants.{Copy}
use Rattle.uc_peep_facts.specs.Facts.{IsResult, known}
use Rattle.uc_peep_facts.specs.declared.fact.Part.TheVariants.{Target}
use Rattle.uc_peep_facts.proofs.Standing.{GivesOne, given-copied, gives-with}
use Rattle.uc_peep_facts.proofs.flow.copy_one.Goals as goal

pub returns-then-reads_apart : goal.returns-then-reads_apart
returns-then-reads_apart c =
    let i = Un c.args.d.now Copy c.args.x.now in
    let before = known c.args.before.now in
    let is = subst (IsResult c.args.f.now) (c.is_same_operand.ensures c.if-is_same_operand.true) c.in-Some.ensures in
    gives-with i before (known c.args.after.now) (known c.push.new.self) _ c.requires.so_far
    (subst (λ j. GivesOne i before (record { instr = j; part = Target })) (sym c.with_target.ensures)
    (given-copied c.args.d.now c.args.x.now before c.args.set.now c.args.f.now c.requires.written c.requires.noted is (c.reads_apart.ensures.straight c.if-reads_apart.true) (c.reads_apart.ensures.apart c.if-reads_apart.true)))
    c.push.ensures
