use Rattle.flat_ir.proofs.Appended.{known-append, formed-append, defined-append, raised-append, live-append, wide-append, bulk-append}
use Rattle.flat_ir.proofs.laws.steps_follow_steps.Goals as goal

pub returns-clause-known : goal.returns-clause-known
returns-clause-known c = known-append

pub returns-clause-formed : goal.returns-clause-formed
returns-clause-formed c = formed-append

pub returns-clause-defined : goal.returns-clause-defined
returns-clause-defined c = defined-append

pub returns-clause-raised : goal.returns-clause-raised
returns-clause-raised c = raised-append

pub returns-clause-live : goal.returns-clause-live
returns-clause-live c = live-append

pub returns-clause-wide : goal.returns-clause-wide
returns-clause-wide c = wide-append

pub returns-clause-bulk : goal.returns-clause-bulk
returns-clause-bulk c = bulk-append
