use Rattle.ucode_emit.proofs.Serving.{at_some, at_none}
use Rattle.ucode_emit.proofs.fetch.served_at.Goals as goal

pub returns-in-Some : goal.returns-in-Some
returns-in-Some c = at_some c.args.serves.now c.args.i c.in-Some.serve.now c.in-Some.ensures.lookup.3.0 c.in-Some.ensures.lookup.3.1

pub returns-in-None : goal.returns-in-None
returns-in-None c = at_none c.args.serves.now c.args.i c.in-None.ensures.lookup.3
