use Rattle.std.proofs.Common.{◌≡◌, ◌++◌, map, drop}
use Rattle.std.specs.List.{flat_map}
use Rattle.bank_prog_form.specs.Rows as lines
use Rattle.bank_prog_form.specs.inner.Form.{access_view}
use Rattle.bank_prog_rows.proofs.waiting.add_writes.Given as goal

abbrev pub invariant-loop-a : goal.invariant-loop-a
invariant-loop-a l = l.cs.items ++ flat_map (lines.side_covering l.sdram l.r) (map access_view (drop l.a-index l.writes)) ≡ l.fn.cs.items ++ flat_map (lines.side_covering l.sdram l.r) (map access_view l.writes)
