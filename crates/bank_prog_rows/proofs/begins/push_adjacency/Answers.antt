use Rattle.std.proofs.Common.{◌∙◌, ap, map, refl}
use Rattle.std.specs.HashMap.{get}
use Rattle.std.specs.List.{flat_map}
use Rattle.ssu_ir.specs.Points.{points}
use Rattle.ssu_ir.specs.View.{labels_view}
use Rattle.ssu_liveness.proofs.RowSteps.{on-ok}
use Rattle.bank_prog_form.specs.Program.{same_column}
use Rattle.bank_prog_form.specs.Rows.{begins_at, adjacency}
use Rattle.bank_prog_form.specs.inner.Form.{part_begins, summary_view}
use Rattle.bank_prog_form.proofs.Loops.{adds-as, each-parts}
use Rattle.bank_prog_rows.proofs.begins.push_adjacency.Goals as goal

pub returns : goal.returns
returns c =
    let labels = labels_view c.args.f.now.ssu.now in
    on-ok c.push_begins.result _ _
    (λ h. adds-as (get same_column c.args.numbers.now) c.args.rows.now.items c.push_begins.new.rows.items (flat_map (part_begins labels) (map summary_view c.deref.result.now)) (adjacency labels) h
    (ap (λ xs. flat_map (part_begins labels) (map summary_view xs)) c.deref.ensures.value ∙ ap (flat_map (part_begins labels)) c.args.f.now.right.summaries ∙ each-parts (part_begins labels) (begins_at labels) (λ k q. refl) 0 (points labels)))
    c.push_begins.ensures
