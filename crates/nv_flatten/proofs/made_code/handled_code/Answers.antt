use Rattle.std.proofs.Common.{refl}
use Rattle.flat_ir.specs.declared.flat.Flat
use Rattle.nv_flatten.proofs.Handling.{handled-made}
use Rattle.nv_flatten.proofs.made_code.handled_code.Goals as goal

pub returns : goal.returns
returns c =
    handled-made c.args.number _ c.in-Ok-short_vars.found _ c.in-Ok.inside.value c.in-Ok-new.inside.value c.args.body c.args.handler (Flat.Try c.in-Ok.inside c.args.number c.in-Ok-short_vars.found c.in-Ok-new.inside) _ refl c.in-Ok.ensures.ok c.in-Ok-new.ensures.ok c.in-Ok-short_vars.ensures
