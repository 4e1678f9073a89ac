use Rattle.std.proofs.Common.{◌≡◌, ◌∷◌, nat_eq, map, sym, ap, subst, ◌∙◌}
use Rattle.std.specs.HashMap.{get}
use Rattle.std.specs.Prelude.{OnOk}
use Rattle.ssu_ir.specs.declared.node.SsuNode.{SsuNode}
use Rattle.ssu_ir.specs.Slots.{node_of}
use Rattle.ssu_ir.specs.Tree.{node_uses}
use Rattle.ssu_liveness.specs.inner.Live.{add_all, value_by}
use Rattle.ssu_liveness.proofs.RowSteps.{on-ok}
use Rattle.ssu_liveness.proofs.rows.add_uses.Goals as goal

pub returns-in-Bin : goal.returns-in-Bin
returns-in-Bin c =
    let of = value_by (get nat_eq c.args.copies.now) in
    subst (λ (n : SsuNode). OnOk c.add_values-in-Bin.result (c.add_values-in-Bin.new.row.items ≡ add_all (map of (node_uses (node_of n))) c.args.row.now.items)) (sym c.in-Bin.is) c.add_values-in-Bin.ensures

pub returns-in-If : goal.returns-in-If
returns-in-If c =
    let of = value_by (get nat_eq c.args.copies.now) in
    subst (λ (n : SsuNode). OnOk c.add_values-in-If.result (c.add_values-in-If.new.row.items ≡ add_all (map of (node_uses (node_of n))) c.args.row.now.items)) (sym c.in-If.is) c.add_values-in-If.ensures

pub returns-in_ok-add_values-in-Write : goal.returns-in_ok-add_values-in-Write
returns-in_ok-add_values-in-Write c =
    let of = value_by (get nat_eq c.args.copies.now) in
    subst (λ (n : SsuNode). OnOk c.add_values-in-Write-2.result (c.add_values-in-Write-2.new.row.items ≡ add_all (map of (node_uses (node_of n))) c.args.row.now.items)) (sym c.in-Write.is)
    (on-ok c.add_values-in-Write-2.result (c.add_values-in-Write-2.new.row.items ≡ add_all (map of c.deref.result.now) c.add_values-in-Write.new.row.items)
    (c.add_values-in-Write-2.new.row.items ≡ add_all (map of (c.in-Write.y ∷ c.in-Write.xs.items)) c.args.row.now.items)
    (λ e. e ∙ ap (λ xs. add_all (map of xs) c.add_values-in-Write.new.row.items) c.deref.ensures ∙ ap (λ r. add_all (map of c.in-Write.xs.items) r) c.in_ok-add_values-in-Write.ensures)
    c.add_values-in-Write-2.ensures)
