use Rattle.std.proofs.Common.{◌≡◌, Some, slice_get}
use Rattle.nv_types_table.specs.declared.table.Cell.TheVariants.{Both}
use Rattle.nv_types_table.proofs.table.Table.halves.Goals as goal

pub returns-in-Some-Both-clause-below : goal.returns-in-Some-Both-clause-below
returns-in-Some-Both-clause-below c =
    let at : slice_get c.args.self.now.cells c.args.list ≡ Some (Both c.in-Some-Both.left c.in-Some-Both.right) = cc in
    c.in-Some-Both.ensures.store.below c.args.list (Both c.in-Some-Both.left c.in-Some-Both.right) at
