use Rattle.std.proofs.Common.{◌≡◌, ◌++◌, [], sym, ap, ◌∙◌}
use Rattle.std.proofs.lemmas.List.{nil_from_length, append-nil}
use Rattle.ssu_ir.specs.Slots.{preorder_all}
use Rattle.ssu_ir.specs.Work.{nums}
use Rattle.ssu_ir.proofs.Walks.{todo_start, present, order_step, order_smaller, none_left}
use Rattle.ssu_ir.proofs.walk.preorder.Goals as goal

pub walk-init : goal.walk-init
walk-init c =
    let t = todo_start _ _ c.args.s.now.formed in record {
      todo = record { left = t.left; at_numbers = t.at_numbers ∙ sym c.in_ok-work.ensures; stand = t.stand };
      so_far = ap (λ l. nums l ++ preorder_all t.left) c.new-order.ensures.items;
    }

pub node-requires : goal.node-requires
node-requires c = present _ _ _ _ c.in-Some.ensures.items c.walk.invariant.todo

pub walk-smaller : goal.walk-smaller
walk-smaller c =
    let h = order_step _ _ _ c.push_successors.new.work.items _ _ _ _ _ c.in-Some.ensures.items c.node.ensures c.in_ok-push_successors.ensures c.in_ok-push.ensures.items c.walk.invariant.todo c.walk.invariant.so_far in
    order_smaller _ _ _ _ _ c.in_ok-push.ensures.items h.so_far

pub walk-preserved : goal.walk-preserved
walk-preserved c =
    let h = order_step _ _ _ c.push_successors.new.work.items _ _ _ _ _ c.in-Some.ensures.items c.node.ensures c.in_ok-push_successors.ensures c.in_ok-push.ensures.items c.walk.invariant.todo c.walk.invariant.so_far in record {
      todo = h.todo;
      so_far = h.so_far;
    }

pub returns : goal.returns
returns c =
    let e : c.walk.work.items ≡ [] = nil_from_length c.walk.work.items (sym c.walk.work.ok.0 ∙ c.in_default.ensures.cases.0) in
    sym (append-nil (nums c.walk.order.items))
    ∙ ap (λ l. nums c.walk.order.items ++ preorder_all l) (sym (none_left _ _ c.walk.invariant.todo e))
    ∙ c.walk.invariant.so_far
