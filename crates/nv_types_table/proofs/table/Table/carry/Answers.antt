use Rattle.std.proofs.Common.{◌≡◌, ◌∙◌, ◌<◌, List, [], ◌∷◌, ◌++◌, ℕ, ap, sym, subst}
use Rattle.nv_types_table.specs.inner.Lists.{AreStacked}
use Rattle.nv_types_table.proofs.Growing.{Extends-trans}
use Rattle.nv_types_table.proofs.RowMaking.{popped, carried_step, carried_end}
use Rattle.nv_types_table.proofs.table.Table.carry.Goals as goal

pub loop-before-preserved : goal.loop-before-preserved
loop-before-preserved c =
    let a = c.args.self.now in
    let s = c.loop-before.self in
    let b = c.both.new.self in
    let rows = c.loop-before.rows.items in
    let at : c.deref.result.now ≡ rows = c.deref.ensures.value in
    let last = c.in-Some.ensures.last in
    let front = popped rows c.pop.new.self.items last.0 c.in-Some.before c.pop.result (sym at ∙ last.1) c.pop.ensures.items (λ h. c.pop.ensures.variant.1 (subst (λ n. 0 < n) (sym c.loop-before.rows.ok.0) h)) in
    record {
      grows = Extends-trans a s b c.loop-before.invariant.grows c.in_ok-row.ensures.grows;
      comes = carried_step a s b c.args.rows.now.items rows c.pop.new.self.items c.args.row c.loop-before.row c.in-Some.before c.in_ok-row.row (sym at ∙ last.1 ∙ ap (λ l. l ++ c.in-Some.before ∷ []) (sym front))
          (λ us u h k. c.in-Some.ensures.twin us u (subst (λ (l : List ℕ). AreStacked s l us) (sym at) h) k) c.in_ok-row.ensures.grows c.in_ok-row.ensures.made c.loop-before.invariant.comes;
    }

pub returns-clause-carried : goal.returns-clause-carried
returns-clause-carried c =
    let s = c.loop-before.self in
    let rows = c.loop-before.rows.items in
    let at : c.deref.result.now ≡ rows = c.deref.ensures.value in
    carried_end c.args.self.now s c.args.rows.now.items rows c.push.new.self.items c.args.row c.loop-before.row
    (λ us u h k. c.in_default.ensures.twin us u (subst (λ (l : List ℕ). AreStacked s l us) (sym at) h) k)
    c.in_ok-push.ensures.items c.loop-before.invariant.comes
