use Rattle.uc_isa.proofs.RegisterLemmas.{written-run, halted-run, started-args, started-base}
use Rattle.uc_isa.proofs.pieces.runs_of_registers_are_words.Goals as goal

pub returns-clause-written : goal.returns-clause-written
returns-clause-written c = λ m r ws e h le each. written-run m r ws e h le each

pub returns-clause-halted : goal.returns-clause-halted
returns-clause-halted c = λ ws e h le each. halted-run ws e h le each

pub returns-clause-arguments : goal.returns-clause-arguments
returns-clause-arguments c = λ args base i lt. started-args args base i lt

pub returns-clause-base : goal.returns-clause-base
returns-clause-base c = λ args base. started-base args base
