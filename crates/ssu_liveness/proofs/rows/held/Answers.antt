use Rattle.std.proofs.Common.{◌≡◌, nat_eq, Vec, Global}
use Rattle.std.specs.HashMap.{get}
use Rattle.std.specs.List.{AllZip}
use Rattle.ssu_ir.specs.Points.{points}
use Rattle.ssu_ir.specs.View.{labels_view}
use Rattle.ssu_liveness.specs.LiveRows.{IsRow, Kept, items_of}
use Rattle.ssu_liveness.specs.inner.Live.{labels_rows, value_by}
use Rattle.ssu_liveness.proofs.Kept.{rows-of-whole, if-ok-map}
use Rattle.ssu_liveness.proofs.rows.held.Goals as goal

pub returns : goal.returns
returns c =
    let s = c.args.s.now in
    let source = get nat_eq c.in_ok-copies.copies in
    if-ok-map c.all_rows.result (λ (v : Vec Kept Global). items_of v.items ≡ labels_rows (value_by source) (labels_view s)) (λ (v : Vec Kept Global). AllZip IsRow (items_of v.items) (points (labels_view s)))
    (λ v e. rows-of-whole s source (items_of v.items) c.requires c.in_ok-copies.ensures e) c.all_rows.ensures
