use Rattle.std.proofs.Common.{sym, subst}
use Rattle.uc_isa.specs.Program.{IsProgram}
use Rattle.uc_isa.proofs.Programs.{lawful_program}
use Rattle.uc_peep.proofs.liveness.live.Goals as goal

pub live_sets-requires-clause-lawful : goal.live_sets-requires-clause-lawful
live_sets-requires-clause-lawful c = subst IsProgram (sym c.list.ensures.list) (lawful_program c.args.c.now.list c.list.ensures.code.some c.requires.lawful)
