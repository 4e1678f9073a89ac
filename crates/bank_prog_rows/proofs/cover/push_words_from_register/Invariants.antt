use Rattle.std.proofs.Common.{◌≡◌, ◌++◌, map, drop}
use Rattle.std.specs.HashMap.{get}
use Rattle.std.specs.List.{flat_map}
use Rattle.zo_model.specs.Contents.{row_contents}
use Rattle.bank_prog_form.specs.Program.{same_column, row_of}
use Rattle.bank_prog_form.specs.Rows as lines
use Rattle.bank_prog_rows.proofs.cover.push_words_from_register.Given as goal
use Rattle.place_plan.specs.inner.UseViews.{use_view}

abbrev pub invariant-loop-u : goal.invariant-loop-u
invariant-loop-u l =
    map row_contents l.rows.items ++ map (row_of (get same_column l.numbers)) (flat_map (lines.word_from_register l.x) (map use_view (drop l.u-index l.uses)))
    ≡ map row_contents l.fn.rows.items ++ map (row_of (get same_column l.numbers)) (flat_map (lines.word_from_register l.x) (map use_view l.uses))
