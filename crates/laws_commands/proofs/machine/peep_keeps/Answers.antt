use Rattle.laws_commands.proofs.MachineProved.{peep_keeps}
use Rattle.laws_commands.proofs.machine.peep_keeps.Goals as goal

pub returns : goal.returns
returns c = peep_keeps
