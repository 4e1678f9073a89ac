use Rattle.std.proofs.Common.{◌≡◌, ◌++◌, map, drop}
use Rattle.std.specs.HashMap.{get}
use Rattle.std.specs.List.{flat_map}
use Rattle.zo_model.specs.Contents.{row_contents}
use Rattle.bank_prog_form.specs.Program.{same_column, row_of}
use Rattle.bank_prog_form.specs.inner.Form as form
use Rattle.bank_prog_rows.proofs.begins.push_stay_begins_at.Given as goal

abbrev pub invariant-loop-f : goal.invariant-loop-f
invariant-loop-f l =
    map row_contents l.rows.items ++ map (row_of (get same_column l.numbers)) (flat_map (form.stay_begin (form.value_view l.v)) (drop l.f-index l.firsts))
    ≡ map row_contents l.fn.rows.items ++ map (row_of (get same_column l.numbers)) (flat_map (form.stay_begin (form.value_view l.v)) l.firsts)
