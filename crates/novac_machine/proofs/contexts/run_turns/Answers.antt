use Rattle.uc_contexts.specs.Turns.{entries}
use Rattle.novac_machine.proofs.Turns.{have-taken}
use Rattle.novac_machine.proofs.contexts.run_turns.Goals as goal

pub returns-clause-turns : goal.returns-clause-turns
returns-clause-turns c =
    have-taken c.args.code.now c.args.packet _ c.args.args.now (entries c.args.entries.now) c.in_ok-contexts.contexts c.run_schedule.new.e c.status_of_all.result c.in_ok-text.text.items c.args.line.now
    c.in_ok-contexts.ensures.made c.run_schedule.ensures.scheduled c.run_schedule.ensures.alone c.requires.tells c.status_of_all.ensures.status c.in_ok-text.ensures
