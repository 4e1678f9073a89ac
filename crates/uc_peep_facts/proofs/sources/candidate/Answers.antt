use Rattle.uc_isa.proofs.Programs.{program_lawful}
use Rattle.uc_peep_facts.proofs.InPlace.{in-place-twice}
use Rattle.uc_peep_facts.proofs.sources.candidate.Goals as goal

pub without_idle_targets-requires : goal.without_idle_targets-requires
without_idle_targets-requires c = record { lawful = program_lawful c.in_ok-read.read.list c.in_ok-read.ensures.in_place.lawful }

pub returns-clause-in_place : goal.returns-clause-in_place
returns-clause-in_place c = in-place-twice c.args.c.now.list c.in_ok-read.read.list c.in_ok-q.q.list c.in_ok-read.ensures.in_place c.in_ok-q.ensures.in_place
