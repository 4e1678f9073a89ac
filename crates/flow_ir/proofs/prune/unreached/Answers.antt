use Rattle.std.proofs.Common.{◌≡◌, ◌∙◌, All, map, sym, subst, IfSome}
use Rattle.std.proofs.lemmas.List.{length-map}
use Rattle.std.proofs.lemmas.List.Elements.{All-nil, All-pop}
use Rattle.flow_ir.specs.View.{label_view}
use Rattle.flow_ir.specs.Reachable.{IsReachable}
use Rattle.flow_ir.proofs.Noting.{GoesFrom, led-begun, led-noted, led-first, led-from}
use Rattle.flow_ir.proofs.prune.unreached.Goals as goal
use Rattle.flow_ir.proofs.prune.unreached.Goals.{in-Some+in_ok-visit, in_default}

pub loop-init : goal.loop-init
loop-init c =
    let ls = map label_view c.args.labels.now in
    led-noted ls (λ i. i ≡ 0) c.in_ok-out.out.items c.note.new.out.items c.new-pending.result.items c.note.new.pending.items (led-first ls) (led-begun ls c.in_ok-out.out.items (c.in_ok-out.ensures.count ∙ sym (length-map c.args.labels.now label_view)) c.in_ok-out.ensures.out)
    (subst (All (IsReachable ls)) (sym c.new-pending.ensures.items) (All-nil (IsReachable ls))) c.in_ok-note.ensures

pub loop-preserved : goal.loop-preserved
loop-preserved c =
    let ls = map label_view c.args.labels.now in
    let popped = All-pop (IsReachable ls) c.loop.pending.items c.pop.new.self.items c.pop.result c.pop.ensures.items c.loop.invariant.1 in
    elim c.match-pop.branch [
      | in-Some+in_ok-visit w ↦
          let led : IsReachable ls w.in-Some.l = subst (λ r. IfSome r (IsReachable ls)) w.in-Some.is popped.1 in
          rw (w.out-is, w.pending-is) (led-noted ls (GoesFrom ls w.in-Some.l) c.loop.out.items w.visit.new.out.items c.pop.new.self.items w.visit.new.pending.items (led-from ls w.in-Some.l led) c.loop.invariant.0 popped.0 w.in_ok-visit.ensures)
      | in_default w ↦ rw (w.out-is, w.pending-is) (c.loop.invariant.0, popped.0)
    ]
