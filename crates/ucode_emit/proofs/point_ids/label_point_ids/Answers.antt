use Rattle.std.proofs.Common.{◌≡◌, [], ◌∷◌, sym, ap, subst, ◌∙◌, All}
use Rattle.std.specs.Prelude.{reverse}
use Rattle.std.proofs.lemmas.List.{nil_from_length, append-nil}
use Rattle.std.proofs.lemmas.List.Elements.{All-nil, All-push}
use Rattle.ssu_ir.specs.Slots.{preorder}
use Rattle.ssu_ir.proofs.Turns.{completes_start, step_of, below_made, present_made, completes_end}
use Rattle.ssu_liveness.specs.inner.Live.{label_tree}
use Rattle.ssu_liveness.proofs.Labels.{tree-at}
use Rattle.ucode_emit.specs.declared.point_ids.EmittedPoint.TheVariants.{Node as NodeSpot}
use Rattle.ucode_emit.specs.inner.EmittedPoints.{IsEmittedPoint, on_stack}
use Rattle.ucode_emit.proofs.Spotted.{spotted, marks_one, all_marks}
use Rattle.ucode_emit.proofs.point_ids.label_point_ids.Goals as goal

pub walk-init : goal.walk-init
walk-init c =
    let s = c.args.s.now in
    let p = label_tree s c.args.l in
    let t = tree-at s c.args.l c.requires in
    record {
      made = [];
      left = completes_start s.nodes.slots (p ∷ []) c.in_ok-order.order.items (t.stands, tt) (c.in_ok-order.ensures ∙ sym (append-nil (preorder p)));
      counts_ = ap reverse c.new-counts.ensures.items;
      marks_ = ap (on_stack s) c.new-point_ids.ensures.items;
      there = subst (λ xs. All (IsEmittedPoint s) xs) (sym c.new-point_ids.ensures.items) (All-nil (IsEmittedPoint s));
    }

pub node-requires : goal.node-requires
node-requires c =
    let slots = c.args.s.now.nodes.slots in
    let m = step_of slots c.walk.order.items c.pop.new.self.items c.in-Some.id c.walk.invariant.made (label_tree c.args.s.now c.args.l ∷ []) c.in-Some.ensures.items c.walk.invariant.left in
    present_made slots c.in-Some.id.0 m.top m.at_number m.stands

pub walk-preserved : goal.walk-preserved
walk-preserved c =
    let s = c.args.s.now in
    let slots = s.nodes.slots in
    let m = step_of slots c.walk.order.items c.pop.new.self.items c.in-Some.id c.walk.invariant.made (label_tree s c.args.l ∷ []) c.in-Some.ensures.items c.walk.invariant.left in
    let b = below_made slots c.in-Some.id.0 m.top c.node.result.now m.at_number m.stands c.node.ensures in
    let g = spotted s m.top m.rest c.walk.invariant.made c.in-Some.id c.node.result.now c.walk.counts.items c.count_node.new.counts.items c.in_ok-arm.arm c.walk.point_ids.items c.push.new.self.items
    m.uses b c.node.ensures c.walk.invariant.counts_ c.walk.invariant.marks_ c.in_ok-arm.ensures c.in_ok-push.ensures.items in
    record {
      made = m.top ∷ m.rest;
      left = m.later;
      counts_ = g.counts_;
      marks_ = g.marks_;
      there = subst (λ xs. All (IsEmittedPoint s) xs) (sym c.in_ok-push.ensures.items)
          (All-push (IsEmittedPoint s) c.walk.point_ids.items (NodeSpot c.in-Some.id c.in_ok-arm.arm) c.walk.invariant.there (present_made slots c.in-Some.id.0 m.top m.at_number m.stands));
    }

pub returns : goal.returns
returns c =
    let s = c.args.s.now in
    let p = label_tree s c.args.l in
    let none : c.walk.order.items ≡ [] = nil_from_length c.walk.order.items (sym c.walk.order.ok.0 ∙ c.in_default.ensures.cases.0) in
    let all' = completes_end s.nodes.slots c.walk.order.items c.walk.invariant.made (p ∷ []) none c.walk.invariant.left in
    record {
      marks = c.walk.invariant.marks_ ∙ ap all_marks all' ∙ marks_one p;
      there = c.walk.invariant.there;
    }
