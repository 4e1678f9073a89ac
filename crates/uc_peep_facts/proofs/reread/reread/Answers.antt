use Rattle.std.proofs.Common.{sym, subst}
use Rattle.uc_isa.specs.declared.instruction.Instr.TheVariants.{Read, Write}
use Rattle.uc_isa.specs.Program.{IsFormed}
use Rattle.uc_peep_facts.specs.Facts.{known}
use Rattle.uc_peep_facts.specs.inner.Operands.{IsReread}
use Rattle.uc_peep_facts.proofs.SameWords.{reread-read, reread-same, reread-write}
use Rattle.uc_peep_facts.proofs.reread.reread.Goals as goal

pub returns-in-Read : goal.returns-in-Read
returns-in-Read c =
    subst (λ i. IsReread (known c.args.facts.now) i (Read c.in-Read.mem c.in-Read.r c.in-Read.n c.address_for-from.result c.in-Read.off)) (sym c.in-Read.is)
    (reread-read (known c.args.facts.now) c.in-Read.mem c.in-Read.r c.in-Read.n c.in-Read.x c.address_for-from.result c.in-Read.off (subst IsFormed c.in-Read.is c.requires) c.address_for-from.ensures.same c.address_for-from.ensures.goes)

pub returns-in-Write : goal.returns-in-Write
returns-in-Write c =
    subst (λ i. IsReread (known c.args.facts.now) i (Write c.in-Write.mem c.in-Write.r c.in-Write.n c.address_for-from-in-Write.result c.in-Write.off)) (sym c.in-Write.is)
    (reread-write (known c.args.facts.now) c.in-Write.mem c.in-Write.r c.in-Write.n c.in-Write.x c.address_for-from-in-Write.result c.in-Write.off (subst IsFormed c.in-Write.is c.requires) c.address_for-from-in-Write.ensures.same c.address_for-from-in-Write.ensures.goes)

pub returns-in_default : goal.returns-in_default
returns-in_default c = reread-same (known c.args.facts.now) c.args.i.now c.requires
