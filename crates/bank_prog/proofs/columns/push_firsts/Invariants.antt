use Rattle.std.proofs.Common.{◌≡◌, ◌++◌, map, drop}
use Rattle.std.specs.List.{flat_map}
use Rattle.bank_prog_form.specs.Columns as columns
use Rattle.bank_prog_form.specs.inner.Form.{access_view}
use Rattle.bank_prog.proofs.columns.push_firsts.Given as goal

abbrev pub invariant-loop-a : goal.invariant-loop-a
invariant-loop-a l = l.out.items ++ flat_map (columns.first_columns) (map access_view (drop l.a-index l.accesses)) ≡ l.fn.out.items ++ flat_map (columns.first_columns) (map access_view l.accesses)
