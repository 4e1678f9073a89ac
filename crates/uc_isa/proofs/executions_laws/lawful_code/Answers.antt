use Rattle.uc_isa.proofs.Programs.{lawful_program, program_lawful, next-inside}
use Rattle.uc_isa.proofs.executions_laws.lawful_code.Goals as goal

pub returns-clause-program : goal.returns-clause-program
returns-clause-program c = lawful_program

pub returns-clause-lawful : goal.returns-clause-lawful
returns-clause-lawful c = program_lawful

pub returns-clause-inside : goal.returns-clause-inside
returns-clause-inside c = next-inside
