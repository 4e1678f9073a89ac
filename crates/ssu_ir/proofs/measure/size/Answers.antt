use Rattle.std.proofs.Common.{◌≡◌, ◌+◌, [], arith, sym, ap, ◌∙◌}
use Rattle.std.proofs.lemmas.List.{nil_from_length}
use Rattle.ssu_ir.specs.Slots.{node_of, bare_all}
use Rattle.ssu_ir.specs.Measures.{tree_size, node_size}
use Rattle.ssu_ir.proofs.Walks.{todo_start, present, sum_trees, sum_within, sum_step, none_left}
use Rattle.ssu_ir.proofs.Sizes.{size-is_sum, size_split, node_size-positive}
use Rattle.ssu_ir.proofs.measure.size.Goals as goal

pub walk-init : goal.walk-init
walk-init c =
    let t = todo_start _ _ c.args.s.now.formed in record {
      todo = record { left = t.left; at_numbers = t.at_numbers ∙ sym c.in_ok-work.ensures; stand = t.stand };
      sum = ap (λ n. n + sum_trees tree_size (bare_all t.left)) c.in_ok-total.ensures ∙ sym (size_split c.args.s.now c.args.s.now.formed);
    }

pub node-n-requires : goal.node-n-requires
node-n-requires c = present _ _ _ _ c.in-Some.ensures.items c.walk.invariant.todo

pub walk-smaller : goal.walk-smaller
walk-smaller c =
    let h = sum_within node_size tree_size size-is_sum _ _ _ _ _ _ _ c.in-Some.ensures.items c.node-n.ensures c.walk.invariant.todo c.walk.invariant.sum in
    omega (arith, h, c.in_ok-node_size.ensures, c.in_ok-total-2.ensures, node_size-positive (node_of c.node-n.result.now))

pub walk-preserved : goal.walk-preserved
walk-preserved c =
    let h = sum_step node_size tree_size size-is_sum _ _ _ c.push_successors.new.work.items _ _ _ _ c.in-Some.ensures.items c.node-n.ensures c.in_ok-push_successors.ensures c.walk.invariant.todo c.walk.invariant.sum in record {
      todo = h.todo;
      sum = ap (λ k. k + sum_trees tree_size (bare_all h.todo.left)) (c.in_ok-total-2.ensures ∙ ap (λ k. c.walk.total + k) c.in_ok-node_size.ensures) ∙ h.sum;
    }

pub returns : goal.returns
returns c =
    let e : c.walk.work.items ≡ [] = nil_from_length c.walk.work.items (sym c.walk.work.ok.0 ∙ c.in_default.ensures.cases.0) in
    omega (arith, ap (λ l. sum_trees tree_size (bare_all l)) (none_left _ _ c.walk.invariant.todo e), c.walk.invariant.sum)
