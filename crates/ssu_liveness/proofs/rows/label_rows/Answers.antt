use Rattle.std.proofs.Common.{◌≡◌, [], ◌∷◌, nat_eq, sym, ap, ◌∙◌}
use Rattle.std.specs.HashMap.{get}
use Rattle.std.proofs.lemmas.List.{nil_from_length, append-nil}
use Rattle.ssu_ir.specs.Slots.{preorder}
use Rattle.ssu_ir.proofs.Turns.{completes_start, step_of, below_made, present_made, completes_end}
use Rattle.ssu_liveness.specs.inner.Live.{label_tree, value_by, on_stack, all_rows}
use Rattle.ssu_liveness.proofs.Labels.{tree-at, grown, all_rows-one}
use Rattle.ssu_liveness.proofs.rows.label_rows.Goals as goal

pub walk-init : goal.walk-init
walk-init c =
    let s = c.args.s.now in
    let p = label_tree s c.args.k in
    let t = tree-at s c.args.k c.requires in
    record {
      made = [];
      left = completes_start s.nodes.slots (p ∷ []) c.in_ok-order.order.items (t.stands, tt) (c.in_ok-order.ensures ∙ sym (append-nil (preorder p)));
      roots = ap on_stack c.new-roots.ensures.items;
      rows = ap on_stack c.new-rows.ensures.items;
    }

pub node-requires : goal.node-requires
node-requires c =
    let m = step_of c.args.s.now.nodes.slots c.walk.order.items c.pop.new.self.items c.in-Some.id c.walk.invariant.made (label_tree c.args.s.now c.args.k ∷ []) c.in-Some.ensures.items c.walk.invariant.left in
    present_made c.args.s.now.nodes.slots c.in-Some.id.0 m.top m.at_number m.stands

pub walk-preserved : goal.walk-preserved
walk-preserved c =
    let slots = c.args.s.now.nodes.slots in
    let of = value_by (get nat_eq c.args.copies.now) in
    let m = step_of slots c.walk.order.items c.pop.new.self.items c.in-Some.id c.walk.invariant.made (label_tree c.args.s.now c.args.k ∷ []) c.in-Some.ensures.items c.walk.invariant.left in
    let b = below_made slots c.in-Some.id.0 m.top c.node.result.now m.at_number m.stands c.node.ensures in
    let g = grown of m.top m.rest c.walk.invariant.made slots c.node.result.now c.walk.roots.items c.row_of.new.rows.items c.push-in-Some.new.self.items c.walk.rows.items c.push.new.self.items c.in_ok-row.row c.in_ok-copied.field-0 m.uses b
    c.walk.invariant.roots c.walk.invariant.rows c.in_ok-row.ensures c.in_ok-push-2.ensures.items (c.in_ok-copied.ensures ∙ c.deref.ensures.value) c.in_ok-push.ensures.items in
    record {
      made = m.top ∷ m.rest;
      left = m.later;
      roots = g.roots;
      rows = g.rows;
    }

pub returns : goal.returns
returns c =
    let of = value_by (get nat_eq c.args.copies.now) in
    let p = label_tree c.args.s.now c.args.k in
    let none : c.walk.order.items ≡ [] = nil_from_length c.walk.order.items (sym c.walk.order.ok.0 ∙ c.in_default.ensures.cases.0) in
    let all' = completes_end c.args.s.now.nodes.slots c.walk.order.items c.walk.invariant.made (p ∷ []) none c.walk.invariant.left in
    c.walk.invariant.rows ∙ ap (λ l. all_rows of l) all' ∙ all_rows-one of p
