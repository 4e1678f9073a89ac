use Rattle.flat_ir.proofs.Live.{does-live, formed-live, does-known}
use Rattle.flat_ir.proofs.laws.only_live_variables_matter.Goals as goal

pub returns-clause-live : goal.returns-clause-live
returns-clause-live c = does-live

pub returns-clause-known : goal.returns-clause-known
returns-clause-known c = formed-live

pub returns-clause-formed : goal.returns-clause-formed
returns-clause-formed c = does-known
