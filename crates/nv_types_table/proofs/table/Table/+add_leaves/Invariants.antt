use Rattle.nv_types_table.proofs.table.Table.+add_leaves.Given as goal

abbrev pub decreases-add_leaves : goal.decreases-add_leaves
decreases-add_leaves l = l.list
