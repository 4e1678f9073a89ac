use Rattle.std.proofs.Common.{◌≡◌, refl, sym, subst, drop, arith}
use Rattle.nv_types_table.specs.inner.Layouts.{AreShapes}
use Rattle.nv_types_scopes.proofs.Holding.{Keeps-refl, Keeps-trans}
use Rattle.nv_types_table.proofs.Making.{drop_front}
use Rattle.nv_types_scopes.proofs.Shaping.{shapes_start, shapes_step, joined_whole}
use Rattle.nv_types_scopes.proofs.functions.Checker.joined_shape.Goals as goal

pub loop-left-init : goal.loop-left-init
loop-left-init c = record {
  within = omega arith;
  keeps = Keeps-refl c.args.self.now;
  joined = shapes_start c.args.self.now.table c.args.self.now.table c.args.shapes.now _ _ (omega arith) refl;
}

pub loop-left-preserved : goal.loop-left-preserved
loop-left-preserved c =
    let i = c.loop-left.left in
    let xs = c.args.shapes.now in
    record {
      within = omega (arith, c.loop-left.invariant.within);
      keeps = Keeps-trans c.args.self.now c.loop-left.self c.in_front.new.self c.loop-left.invariant.keeps c.in_ok-whole.ensures.keeps;
      joined = shapes_step c.args.self.now.table c.loop-left.self.table c.in_front.new.self.table (drop i xs) _ _ c.loop-left.whole c.in_ok-whole.whole
          (drop_front xs i _ (omega (arith, c.loop-left-test.true)) c.loop-left.invariant.within) c.loop-left.invariant.keeps.declared.grows c.loop-left.invariant.joined c.in_ok-whole.ensures.joined;
    }

pub returns-clause-shaped : goal.returns-clause-shaped
returns-clause-shaped c = λ os h.
    let none : c.loop-left.left ≡ 0 = omega (arith, c.loop-left-test.false) in
    joined_whole c.loop-left.self.table c.loop-left.whole _ os (c.loop-left.invariant.joined os (subst (λ n. AreShapes c.args.self.now.table (drop n c.args.shapes.now) os) (sym none) h)) refl refl c.saturating_add.ensures refl refl

pub returns-clause-keeps : goal.returns-clause-keeps
returns-clause-keeps c = c.loop-left.invariant.keeps
