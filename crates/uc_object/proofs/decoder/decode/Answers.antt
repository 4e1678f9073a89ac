use Rattle.uc_object.proofs.Results.{decoded, refused, sound}
use Rattle.uc_object.proofs.decoder.decode.Goals as goal

pub returns-clause-decoded : goal.returns-clause-decoded
returns-clause-decoded c = decoded c.args.bytes.now c.read.result (sound c.args.bytes.now c.read.result c.read.ensures.object c.read.ensures.bad)

pub returns-clause-refused : goal.returns-clause-refused
returns-clause-refused c = refused c.args.bytes.now c.read.result (sound c.args.bytes.now c.read.result c.read.ensures.object c.read.ensures.bad)
