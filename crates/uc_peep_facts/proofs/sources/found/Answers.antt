use Rattle.std.proofs.Common.{sym, subst}
use Rattle.uc_isa.proofs.Programs.{lawful_program}
use Rattle.uc_isa.specs.Program.{IsProgram}
use Rattle.uc_peep_facts.specs.Facts.{AreKept}
use Rattle.uc_peep_facts.proofs.sources.found.Goals as goal

pub solve-requires-clause-lawful : goal.solve-requires-clause-lawful
solve-requires-clause-lawful c = subst IsProgram (sym c.list-code.ensures.list) (lawful_program c.args.c.now.list c.list-code.ensures.code.some c.requires.lawful)

pub are_kept-requires-clause-lawful : goal.are_kept-requires-clause-lawful
are_kept-requires-clause-lawful c = subst IsProgram (sym c.list-code.ensures.list) (lawful_program c.args.c.now.list c.list-code.ensures.code.some c.requires.lawful)

pub lighter-requires-clause-kept : goal.lighter-requires-clause-kept
lighter-requires-clause-kept c = subst (λ l. AreKept l c.solve.new.table) c.list-code.ensures.list (c.are_kept.ensures c.if-not-are_kept.false)

pub returns : goal.returns
returns c = c.in_ok-o.ensures c.args.starts.now c.mark_starts.ensures
