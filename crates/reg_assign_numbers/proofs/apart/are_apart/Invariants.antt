use Rattle.std.proofs.Common.{nat_eq, take}
use Rattle.std.specs.Prelude.{All}
use Rattle.std.specs.HashMap.{get}
use Rattle.ssu_liveness.specs.LiveRows.{items_of}
use Rattle.reg_assign_numbers.specs.Rows.{HasNumbers}
use Rattle.reg_assign_numbers.proofs.apart.are_apart.Given as goal

abbrev pub invariant-loop-row : goal.invariant-loop-row
invariant-loop-row l = All (HasNumbers (get nat_eq l.numbers) l.limit) (items_of (take l.row-index l.rows))
