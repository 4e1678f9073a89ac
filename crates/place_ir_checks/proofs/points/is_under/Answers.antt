use Rattle.std.proofs.Common.{sym, refl}
use Rattle.std.proofs.lemmas.Bool.{lt-ltb}
use Rattle.place_ir_checks.proofs.points.is_under.Goals as goal

pub returns-in-Here : goal.returns-in-Here
returns-in-Here c = sym (lt-ltb _ _ (c.in-Here.ensures.here c.in-Here.field-0 refl).within)
