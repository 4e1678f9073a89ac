use Rattle.nv_types_table.proofs.table.Table.+meets_in.Given as goal

abbrev pub decreases-meets_in : goal.decreases-meets_in
decreases-meets_in l = l.list
