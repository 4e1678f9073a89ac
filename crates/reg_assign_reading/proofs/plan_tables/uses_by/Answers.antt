use Rattle.std.proofs.Common.{◌≡◌, ◌+◌, ◌-◌, ◌<◌, ◌&&◌, nat_eq, length, map, refl, arith}
use Rattle.std.specs.HashMap.{get}
use Rattle.place_plan.specs.Uses as pure
use Rattle.place_plan.specs.declared.uses.Use.{Use}
use Rattle.place_plan.specs.inner.UseViews.{role_view, use_view}
use Rattle.reg_assign_reading.specs.inner.Chosen.{use_in}
use Rattle.reg_assign_reading.specs.inner.PlanTables.{pair_eq, known_value, known_role}
use Rattle.reg_assign_reading.proofs.TableSteps.{found-more, if-field}
use Rattle.reg_assign_reading.proofs.plan_tables.uses_by.Goals as goal

pub loop-n-preserved : goal.loop-n-preserved
loop-n-preserved c =
    let xs = c.args.uses.now in
    let at = c.loop-n.n - 1 in
    let next : c.loop-n.n ≡ at + 1 = omega arith in
    let low : at < length xs = omega arith in
    record {
      within = omega arith;
      values = λ k i. found-more (λ us. (use_in (map use_view us) k i).value) known_value (λ (u : Use). u.value) (λ (u : Use). nat_eq u.point k && nat_eq u.operand i) xs at c.loop-n.n _ (get pair_eq c.loop-n.table (k, i)) (get pair_eq c.insert.new.self (k, i)) next low
          (λ u rest. if-field (λ (u : pure.Use). u.value) (nat_eq u.point k && nat_eq u.operand i) (use_view u) (use_in (map use_view rest) k i)) (λ u. refl) (c.in_ok-insert.ensures.updates.0 (k, i)) (c.loop-n.invariant.values k i);
      roles = λ k i. found-more (λ us. (use_in (map use_view us) k i).role) known_role (λ (u : Use). role_view u.role) (λ (u : Use). nat_eq u.point k && nat_eq u.operand i) xs at c.loop-n.n _ (get pair_eq c.loop-n.table (k, i)) (get pair_eq c.insert.new.self (k, i)) next low
          (λ u rest. if-field (λ (u : pure.Use). u.role) (nat_eq u.point k && nat_eq u.operand i) (use_view u) (use_in (map use_view rest) k i)) (λ u. refl) (c.in_ok-insert.ensures.updates.0 (k, i)) (c.loop-n.invariant.roles k i);
    }
