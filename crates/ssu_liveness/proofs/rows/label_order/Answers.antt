use Rattle.std.proofs.Common.{◌≡◌, ◌++◌, [], ◌∷◌, sym, ap, ◌∙◌}
use Rattle.std.proofs.lemmas.List.{nil_from_length, append-nil}
use Rattle.ssu_ir.specs.declared.node.SsuLabel.{SsuLabel}
use Rattle.ssu_ir.specs.Slots.{preorder, preorder_all}
use Rattle.ssu_ir.specs.Work.{nums, tops}
use Rattle.ssu_ir.proofs.Walks.{present, order_step, order_smaller, none_left}
use Rattle.ssu_liveness.specs.inner.Live.{label_tree}
use Rattle.ssu_liveness.proofs.Labels.{tree-at}
use Rattle.ssu_liveness.proofs.rows.label_order.Goals as goal

pub walk-init : goal.walk-init
walk-init c =
    let s = c.args.s.now in
    let t = tree-at s c.args.k c.requires in
    let body = t.at_body c.index.result.now ∙ ap (λ (l : SsuLabel). l.body.0) (sym c.index.ensures) in
    record {
      todo = record {
        left = label_tree s c.args.k ∷ [];
        at_numbers = ap (λ i. i ∷ []) body ∙ sym (ap tops (c.in_ok-push.ensures.items ∙ ap (λ xs. xs ++ c.index.result.now.body ∷ []) c.new-work.ensures.items));
        stand = (t.stands, tt);
      };
      so_far = ap (λ l. nums l ++ preorder_all (label_tree s c.args.k ∷ [])) c.new-order.ensures.items ∙ append-nil (preorder (label_tree s c.args.k));
    }

pub node-requires : goal.node-requires
node-requires c = present _ _ _ _ c.in-Some.ensures.items c.walk.invariant.todo

pub walk-smaller : goal.walk-smaller
walk-smaller c =
    let h = order_step _ _ _ c.push_successors.new.work.items _ _ _ _ _ c.in-Some.ensures.items c.node.ensures c.in_ok-push_successors.ensures c.in_ok-push-2.ensures.items c.walk.invariant.todo c.walk.invariant.so_far in
    order_smaller _ _ _ _ _ c.in_ok-push-2.ensures.items h.so_far

pub walk-preserved : goal.walk-preserved
walk-preserved c =
    let h = order_step _ _ _ c.push_successors.new.work.items _ _ _ _ _ c.in-Some.ensures.items c.node.ensures c.in_ok-push_successors.ensures c.in_ok-push-2.ensures.items c.walk.invariant.todo c.walk.invariant.so_far in record {
      todo = h.todo;
      so_far = h.so_far;
    }

pub returns : goal.returns
returns c =
    let e : c.walk.work.items ≡ [] = nil_from_length c.walk.work.items (sym c.walk.work.ok.0 ∙ c.in_default.ensures.cases.0) in
    sym (append-nil (nums c.walk.order.items))
    ∙ ap (λ l. nums c.walk.order.items ++ preorder_all l) (sym (none_left _ _ c.walk.invariant.todo e))
    ∙ c.walk.invariant.so_far
