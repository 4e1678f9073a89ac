use Rattle.nv_types_table.proofs.RowMaking.{row_some}
use Rattle.nv_types_table.proofs.table.Table.row.Goals as goal

pub returns-in-Some-clause-row : goal.returns-in-Some-clause-row
returns-in-Some-clause-row c =
    row_some c.args.self.now c.extended.new.self c.args.lists.now c.new.result.items c.in-Some.behind.now c.in-Some.first.now c.extended.result c.in-Some.ensures.cases.0 c.new.ensures.items c.extended.ensures.extended
