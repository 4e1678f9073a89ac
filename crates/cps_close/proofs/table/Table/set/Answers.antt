use Rattle.std.proofs.Common.{ℕ, ap, Vec, Global}
use Rattle.std.proofs.lemmas.List.{map-set}
use Rattle.cps_close.specs.inner.View.{table_view}
use Rattle.cps_close.proofs.Steps.{relisted}
use Rattle.cps_close.proofs.table.Table.set.Goals as goal

pub returns-then-i-len : goal.returns-then-i-len
returns-then-i-len c = ap (relisted (table_view c.args.self.now)) (map-set (λ (v : Vec ℕ Global). v.items) c.args.self.now.lists.items c.args.i c.args.needed)
