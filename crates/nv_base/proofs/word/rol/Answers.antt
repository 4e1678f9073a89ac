use Rattle.std.proofs.Common.{◌∙◌, arith}
use Rattle.nv_base.proofs.Rotation.{rotation}
use Rattle.nv_base.proofs.word.rol.Goals as goal

pub returns : goal.returns
returns c = c.rotate_left.ensures ∙ rotation c.args.k c.args.x (omega (arith, c.ranges.x)) c.requires
