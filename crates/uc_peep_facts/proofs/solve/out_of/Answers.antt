use Rattle.std.proofs.Common.{refl, sym, subst}
use Rattle.uc_isa.specs.Program.{IsFormed}
use Rattle.uc_peep.proofs.Sweeps.{lawful-here}
use Rattle.uc_peep_facts.proofs.solve.out_of.Goals as goal

pub is_idle-requires : goal.is_idle-requires
is_idle-requires c = subst IsFormed (sym c.index-code-x.is) (lawful-here c.args.code.now _ c.args.x c.index-code-x.result c.requires.lawful refl c.requires.inside).formed

pub facts_after-requires : goal.facts_after-requires
facts_after-requires c = subst IsFormed (sym c.index-code-x-2.is) (lawful-here c.args.code.now _ c.args.x c.index-code-x-2.result c.requires.lawful refl c.requires.inside).formed
