use Rattle.std.proofs.Common.{◌∙◌, ◌++◌, ℕ, ap, map, arith}
use Rattle.std.specs.HashMap.{get}
use Rattle.zo_model.specs.Contents.{row_contents}
use Rattle.ssu_ir.specs.View.{labels_view}
use Rattle.ssu_liveness.specs.LiveRows.{Kept, items_of}
use Rattle.bank_prog_form.specs.Program.{same_column, row_of}
use Rattle.bank_prog_form.specs.inner.Owners.{each_row, row_owners}
use Rattle.bank_prog_form.proofs.Loops.{adds-as}
use Rattle.bank_prog_rows.proofs.OwnerSteps.{rows-more, rows-all}
use Rattle.bank_prog_rows.proofs.owners.push_read_owners.Goals as goal

pub loop-k-preserved : goal.loop-k-preserved
loop-k-preserved c =
    let number = get same_column c.args.numbers.now in
    let f = row_owners (labels_view c.args.f.now.ssu.now) in
    rows-more number f c.args.held.now c.loop-k.k _ c.loop-k.rows.items c.push_point_owners.new.rows.items
    (map row_contents c.args.rows.now.items ++ map (row_of number) (each_row f 0 (items_of c.args.held.now))) (omega arith)
    (adds-as number c.loop-k.rows.items c.push_point_owners.new.rows.items _ _ c.in_ok-push_point_owners.ensures
    (ap (λ (z : ℕ). f z c.deref.result.now) c.in_ok-short.ensures ∙ ap (f c.loop-k.k) (c.deref.ensures.value ∙ ap (λ (v : Kept). v.items) c.index-held-k.is)))
    c.loop-k.invariant

pub returns : goal.returns
returns c =
    let number = get same_column c.args.numbers.now in
    let f = row_owners (labels_view c.args.f.now.ssu.now) in
    rows-all number f c.args.held.now c.loop-k.k c.loop-k.rows.items (map row_contents c.args.rows.now.items ++ map (row_of number) (each_row f 0 (items_of c.args.held.now))) (omega arith) c.loop-k.invariant
