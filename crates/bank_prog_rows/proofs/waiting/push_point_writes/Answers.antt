use Rattle.std.proofs.Common.{ap, map}
use Rattle.std.specs.HashMap.{get}
use Rattle.std.specs.List.{flat_map}
use Rattle.ssu_liveness.proofs.RowSteps.{on-ok}
use Rattle.bank_prog_form.specs.Columns.{eight}
use Rattle.bank_prog_form.specs.Program.{same_column}
use Rattle.bank_prog_form.specs.inner.Form.{access_view}
use Rattle.bank_prog_rows.specs.inner.Waiting.{write_owner, sdram_write_owner}
use Rattle.bank_prog_form.proofs.Loops.{adds-both, adds-as}
use Rattle.bank_prog_rows.proofs.waiting.push_point_writes.Goals as goal
use Rattle.place_plan.specs.inner.UseViews.{use_view}

pub returns : goal.returns
returns c =
    let number = get same_column c.args.numbers.now in
    let us = map use_view c.args.us.now in
    let as' = map access_view c.args.summary.now.writes.items in
    let start = c.args.rows.now.items in
    let mid = c.push_write_owners_at.new.rows.items in
    let last = c.push_sdram_write_owners.new.rows.items in
    let k = c.args.summary.now.point in
    on-ok c.push_sdram_write_owners.result _ _
    (λ h. adds-both number start mid last (flat_map (write_owner k us as') eight) (flat_map (sdram_write_owner us as') eight)
    (adds-as number start mid _ _ c.in_ok-push_write_owners_at.ensures (ap (λ ws. flat_map (write_owner k us (map access_view ws)) eight) c.deref.ensures.value))
    (adds-as number mid last _ _ h (ap (λ ws. flat_map (sdram_write_owner us (map access_view ws)) eight) c.deref-2.ensures.value)))
    c.push_sdram_write_owners.ensures
