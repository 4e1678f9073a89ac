-- The pure form of a table.
use Rattle.std.specs.Prelude.{nat_eq, map}
use Rattle.std.specs.HashMap as hash
use Rattle.cps_close.specs.declared.table.Table as declared
use Rattle.cps_close.specs.inner.Closed.{Table}

abbrev pub table_view : declared.Table → Table
table_view t = record { index = λ l. hash.get nat_eq t.indices l; lists = map (λ v. v.items) t.lists.items }
