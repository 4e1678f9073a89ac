use Rattle.std.proofs.Common.{◌≡◌, ◌∙◌, Bool, map, subst, sym}
use Rattle.std.proofs.lemmas.Result.{IfOk-weaker}
use Rattle.std.specs.declared.vec.Vec.{Vec}
use Rattle.std.specs.declared.alloc.Global.{Global}
use Rattle.ssu_ir.specs.View.{labels_view}
use Rattle.place_plan.specs.Order.{IsInOrder}
use Rattle.place_plan.specs.Plan.{plan_view}
use Rattle.reg_assign_reading.specs.inner.Chosen.{chosen}
use Rattle.reg_assign_reading.specs.inner.PlanTables.{told}
use Rattle.reg_assign_reading.proofs.ChosenVector.{all-told}
use Rattle.reg_assign.proofs.chosen.on_of.Goals as goal

pub all_on-requires : goal.all_on-requires
all_on-requires c = subst IsInOrder (sym c.in_ok-t.ensures.plan) c.requires

pub returns : goal.returns
returns c =
    let labels = labels_view c.args.f.now.ssu.now in
    let p = plan_view c.args.p.now in
    let t = c.in_ok-t.t in
    let columns = c.args.columns.now in
    IfOk-weaker c.all_on.result (λ (v : Vec Bool Global). v.items ≡ map (told labels t) columns) (λ (v : Vec Bool Global). v.items ≡ map (chosen labels p) columns)
    (λ v h. h ∙ all-told labels p t columns c.in_ok-t.ensures) c.all_on.ensures
