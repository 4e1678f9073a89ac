use Rattle.std.proofs.Common.{refl}
use Rattle.ssu_ir.proofs.Steps.{access-taken}
use Rattle.ssu_ir.proofs.step.read.Goals as goal

pub read-requires : goal.read-requires
read-requires c = access-taken c.args.m _ _ refl c.requires.moves
