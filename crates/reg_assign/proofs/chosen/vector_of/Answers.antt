use Rattle.std.proofs.Common.{◌∙◌, map, ap}
use Rattle.ssu_ir.specs.View.{labels_view}
use Rattle.place_plan.specs.Plan.{plan_view}
use Rattle.place_plan.proofs.Ordered.{fits-in-order}
use Rattle.reg_assign_reading.specs.inner.Chosen.{chosen}
use Rattle.reg_assign_reading.proofs.ChosenVector.{IsVector, vector-long, vector-feasible, vector-costs, vector-weighted}
use Rattle.reg_assign.proofs.chosen.vector_of.Goals as goal

pub on_of-requires : goal.on_of-requires
on_of-requires c = fits-in-order (labels_view c.args.bank.now.form.ssu.now) (plan_view c.args.p.now) c.requires.fits

pub returns : goal.returns
returns c =
    let labels = labels_view c.args.bank.now.form.ssu.now in
    let p = plan_view c.args.p.now in
    let is : IsVector labels p c.in_ok-on.on.items = record { is = c.in_ok-on.ensures ∙ ap (map (chosen labels p)) (c.deref.ensures.value ∙ c.in_ok-columns.ensures) } in
    record {
      one_a_column = vector-long labels p c.in_ok-on.on.items is;
      has = is.is;
      feasible = vector-feasible labels p c.in_ok-on.on.items c.requires.single c.requires.fits is;
      costs_same = vector-costs labels p c.in_ok-on.on.items c.requires.single c.requires.fits is;
      weighted_same = vector-weighted labels p c.in_ok-on.on.items c.requires.single c.requires.fits is;
    }
