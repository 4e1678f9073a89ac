use Rattle.std.proofs.Common.{◌≡◌, sym, ◌∙◌, arith, IfOk, subst}
use Rattle.nv_flatten_values.specs.inner.View.{view}
use Rattle.nv_flatten_values.proofs.Bindings.{variable-newest}
use Rattle.nv_flatten_values.proofs.scope.variable.Goals as goal
use Rattle.nv_meaning.proofs.Bindings.{if-true, if-false}

pub returns-then-eq : goal.returns-then-eq
returns-then-eq c =
    let n = variable-newest c.args.scope.now c.args.x.now c.loop-i.i c.index-scope-i.result (omega arith) c.loop-i.invariant.0 c.index-scope-i.is ∙ if-true _ _ _ (sym c.eq.ensures ∙ c.if-eq.true) in
    subst (λ u. IfOk c.copied.result (λ v. view v ≡ u)) (sym n ∙ c.loop-i.invariant.1) c.copied.ensures

pub loop-i-preserved : goal.loop-i-preserved
loop-i-preserved c =
    let n = variable-newest c.args.scope.now c.args.x.now c.loop-i.i c.index-scope-i.result (omega arith) c.loop-i.invariant.0 c.index-scope-i.is ∙ if-false _ _ _ (sym c.eq.ensures ∙ c.if-eq.false) in
    (omega arith, sym n ∙ c.loop-i.invariant.1)
