use Rattle.nv_types_table.proofs.record_fields.+find_in.Given as goal

abbrev pub decreases-find_in : goal.decreases-find_in
decreases-find_in l = l.list
