use Rattle.std.proofs.Common.{◌∙◌, ◌++◌, ◌+◌, ap, map, sym, drop, arith}
use Rattle.std.specs.HashMap.{get}
use Rattle.zo_model.specs.Contents.{row_contents}
use Rattle.ssu_ir.specs.View.{labels_view}
use Rattle.ssu_liveness.specs.LiveRows.{items_of}
use Rattle.bank_prog_form.specs.Program.{same_column, row_of}
use Rattle.bank_prog_form.specs.inner.Form.{summary_view}
use Rattle.bank_prog_form.specs.inner.Owners.{fills, part_fills, rest, first_row}
use Rattle.bank_prog_form.proofs.Loops.{adds-as}
use Rattle.bank_prog_rows.proofs.Fills.{fills-more, fills-all, rest-drop}
use Rattle.bank_prog_rows.proofs.refills.push_fills.Goals as goal

pub loop-k-init : goal.loop-k-init
loop-k-init c =
    ap (λ rs. map row_contents c.args.rows.now.items ++ map (row_of (get same_column c.args.numbers.now)) (fills (labels_view c.args.f.now.ssu.now) (map summary_view c.args.summaries.now) rs)) (sym (rest-drop 0 c.args.held.now))

pub loop-k-preserved : goal.loop-k-preserved
loop-k-preserved c =
    let number = get same_column c.args.numbers.now in
    let labels = labels_view c.args.f.now.ssu.now in
    let k = c.loop-k.k in
    let now = items_of (drop (k + 1) c.args.held.now) in
    let goal = map row_contents c.args.rows.now.items ++ map (row_of number) (fills labels (map summary_view c.args.summaries.now) (rest (items_of c.args.held.now))) in
    ap (λ rs. map row_contents c.push_point_fills.new.rows.items ++ map (row_of number) (fills labels (map summary_view (drop (k + 1) c.args.summaries.now)) rs)) (sym (rest-drop (k + 1) c.args.held.now))
    ∙ fills-more number labels summary_view c.args.summaries.now k _ now c.loop-k.rows.items c.push_point_fills.new.rows.items goal (omega arith)
    (adds-as number c.loop-k.rows.items c.push_point_fills.new.rows.items _ _ c.in_ok-push_point_fills.ensures
    (ap (λ xs. part_fills labels (summary_view c.index-summaries-k.result) xs) c.row_at.ensures ∙ ap (λ s. part_fills labels (summary_view s) (first_row now)) c.index-summaries-k.is))
    c.loop-k.invariant

pub returns : goal.returns
returns c =
    let number = get same_column c.args.numbers.now in
    let labels = labels_view c.args.f.now.ssu.now in
    fills-all number labels summary_view c.args.summaries.now c.loop-k.k (items_of (drop (c.loop-k.k + 1) c.args.held.now)) c.loop-k.rows.items
    (map row_contents c.args.rows.now.items ++ map (row_of number) (fills labels (map summary_view c.args.summaries.now) (rest (items_of c.args.held.now)))) (omega arith) c.loop-k.invariant
