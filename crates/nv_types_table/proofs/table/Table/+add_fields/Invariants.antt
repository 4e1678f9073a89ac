use Rattle.nv_types_table.proofs.table.Table.+add_fields.Given as goal

abbrev pub decreases-add_fields : goal.decreases-add_fields
decreases-add_fields l = l.list
