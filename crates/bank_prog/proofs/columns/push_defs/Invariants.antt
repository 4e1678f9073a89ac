use Rattle.std.proofs.Common.{◌≡◌, ◌++◌, map, drop}
use Rattle.std.specs.List.{flat_map}
use Rattle.bank_prog_form.specs.Columns as columns
use Rattle.bank_prog_form.specs.inner.Form.{value_view}
use Rattle.bank_prog.proofs.columns.push_defs.Given as goal

abbrev pub invariant-loop-v : goal.invariant-loop-v
invariant-loop-v l = l.out.items ++ flat_map (columns.def_columns) (map value_view (drop l.v-index l.values)) ≡ l.fn.out.items ++ flat_map (columns.def_columns) (map value_view l.values)
