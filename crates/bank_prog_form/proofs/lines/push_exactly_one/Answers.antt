use Rattle.std.proofs.Common.{[], ◌∷◌}
use Rattle.std.specs.HashMap.{get}
use Rattle.ssu_liveness.proofs.RowSteps.{on-ok}
use Rattle.bank_prog_form.specs.Program.{same_column}
use Rattle.bank_prog_form.specs.Rows as lines
use Rattle.bank_prog_form.proofs.Loops.{adds-both}
use Rattle.bank_prog_form.proofs.lines.push_exactly_one.Goals as goal

pub returns : goal.returns
returns c =
    on-ok c.push_at_most.result _ _
    (adds-both (get same_column c.args.numbers.now) c.args.rows.now.items c.push_one_at_least.new.rows.items c.push_at_most.new.rows.items (lines.at_least 1 c.args.cs.now ∷ []) (lines.at_most 1 c.args.cs.now ∷ []) c.in_ok-push_one_at_least.ensures)
    c.push_at_most.ensures
