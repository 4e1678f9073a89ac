use Rattle.std.proofs.Common.{rules, refl, inr}
use Rattle.nova_show.proofs.saving.add_saving.Goals as goal

pub returns-else-is_err : goal.returns-else-is_err
returns-else-is_err c = inr ((record { name = c.in-Ok.name; bytes = c.args.bytes }, search rules, refl, search rules), refl)
