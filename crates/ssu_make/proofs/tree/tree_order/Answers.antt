use Rattle.std.proofs.Common.{◌≡◌, ◌<◌, ◌∷◌, ap, subst, sym, ◌∙◌}
use Rattle.flow_ir.specs.View.{tree_view}
use Rattle.ssu_make.specs.inner.Making.{tops}
use Rattle.ssu_make.proofs.Along.{weights}
use Rattle.ssu_make.proofs.Turns.{tops-last, surveys-less}
use Rattle.ssu_make.proofs.Stack.{builds-step}
use Rattle.ssu_make.proofs.tree.tree_order.Goals as goal

pub walk-smaller : goal.walk-smaller
walk-smaller c =
    let s = tree_view c.in-Some.s.now in
    let e : tops c.walk.work.items ≡ s ∷ tops c.pop.new.self.items = ap tops c.in-Some.ensures.items ∙ tops-last c.pop.new.self.items c.in-Some.s in
    subst (λ l. weights (tops c.push_successors.new.work.items) < weights l) (sym e) (surveys-less s (tops c.pop.new.self.items) (tops c.push_successors.new.work.items) c.in_ok-push_successors.ensures)

pub walk-preserved : goal.walk-preserved
walk-preserved c =
    builds-step (tree_view c.args.t.now) c.walk.order.items c.push-in-Some.new.self.items c.walk.work.items c.pop.new.self.items c.in-Some.s (tops c.push_successors.new.work.items) c.walk.invariant c.in-Some.ensures.items c.in_ok-push-2.ensures.items c.in_ok-push_successors.ensures
