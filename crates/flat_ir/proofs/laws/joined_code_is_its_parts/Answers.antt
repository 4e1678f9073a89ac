use Rattle.flat_ir.proofs.Parts.{nodes-formed, nodes-defined, nodes-raised, nodes-live, nodes-wide, nodes-bulk}
use Rattle.flat_ir.proofs.laws.joined_code_is_its_parts.Goals as goal

pub returns-clause-formed : goal.returns-clause-formed
returns-clause-formed c = nodes-formed

pub returns-clause-defined : goal.returns-clause-defined
returns-clause-defined c = nodes-defined

pub returns-clause-raised : goal.returns-clause-raised
returns-clause-raised c = nodes-raised

pub returns-clause-live : goal.returns-clause-live
returns-clause-live c = nodes-live

pub returns-clause-wide : goal.returns-clause-wide
returns-clause-wide c = nodes-wide

pub returns-clause-bulk : goal.returns-clause-bulk
returns-clause-bulk c = nodes-bulk
