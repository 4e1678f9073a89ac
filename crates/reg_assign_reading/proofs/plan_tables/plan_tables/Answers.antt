use Rattle.std.proofs.Common.{◌∙◌, map, ap, refl}
use Rattle.ssu_ir.specs.View.{labels_view}
use Rattle.place_plan.specs.Uses.{values}
use Rattle.place_plan.specs.inner.UseViews.{use_view}
use Rattle.bank_prog_form.specs.inner.Form.{AreTables, value_view}
use Rattle.bank_prog.specs.Weighted.{point_in}
use Rattle.reg_assign_reading.specs.inner.Chosen.{use_in}
use Rattle.reg_assign_reading.proofs.TableSteps.{point-in-value}
use Rattle.reg_assign_reading.proofs.plan_tables.plan_tables.Goals as goal

pub returns : goal.returns
returns c =
    let labels = labels_view c.args.f.now.ssu.now in
    let tables : AreTables labels c.args.f.now.tables = c.args.f.now.right in
    record {
      plan = refl;
      values = λ k i. c.in_ok-uses.ensures.values k i ∙ ap (λ us. (use_in (map use_view us) k i).value) c.deref.ensures.value ∙ ap (λ us. (use_in us k i).value) tables.uses;
      roles = λ k i. c.in_ok-uses.ensures.roles k i ∙ ap (λ us. (use_in (map use_view us) k i).role) c.deref.ensures.value ∙ ap (λ us. (use_in us k i).role) tables.uses;
      points = λ x. c.in_ok-points.ensures x ∙ ap (λ vs. point_in (map value_view vs) x) c.deref-2.ensures.value ∙ ap (λ vs. point_in vs x) tables.values ∙ point-in-value (values labels) x;
    }
