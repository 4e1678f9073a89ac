use Rattle.std.proofs.Common.{sym, subst}
use Rattle.uc_isa.proofs.Programs.{lawful_program}
use Rattle.uc_isa.specs.Program.{IsProgram}
use Rattle.uc_peep_facts.specs.Facts.{known_at}
use Rattle.uc_peep_facts.specs.inner.Operands.{ArePut, IsInPlace, IsReread}
use Rattle.uc_peep_facts.proofs.InPlace.{reread-in-place}
use Rattle.uc_peep_facts.proofs.sources.read_elsewhere.Goals as goal

pub reread_code-requires-clause-lawful : goal.reread_code-requires-clause-lawful
reread_code-requires-clause-lawful c = subst IsProgram (sym c.list.ensures.list) (lawful_program c.args.c.now.list c.list.ensures.code.some c.requires.lawful)

pub returns-clause-in_place : goal.returns-clause-in_place
returns-clause-in_place c =
    subst (IsInPlace c.args.c.now.list) (sym c.new.ensures.list)
    (reread-in-place c.args.c.now.list c.in_ok-draft.draft.items c.args.table.now (lawful_program c.args.c.now.list c.list.ensures.code.some c.requires.lawful) c.requires.kept
    (subst (λ l. ArePut (λ x i j. IsReread (known_at c.args.table.now x) i j) l c.in_ok-draft.draft.items) c.list.ensures.list c.in_ok-draft.ensures))
