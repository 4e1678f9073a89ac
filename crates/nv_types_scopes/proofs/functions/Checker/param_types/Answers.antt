use Rattle.std.proofs.Common.{◌∙◌, ◌++◌, ◌∷◌, ◌≤◌, [], ap, sym, length, arith}
use Rattle.std.proofs.lemmas.List.{take_all}
use Rattle.nv_types_table.specs.inner.Named.{named, bound_types}
use Rattle.nv_types_scopes.proofs.Params.{types_more}
use Rattle.nv_types_scopes.proofs.functions.Checker.param_types.Goals as goal

pub loop-p-preserved : goal.loop-p-preserved
loop-p-preserved c =
    let i = c.loop-p.p-index in
    let xs = c.args.params.now in
    let p = c.p-item.result in
    c.in_ok-push.ensures.items ∙ ap (λ l. l ++ p.1 ∷ []) c.loop-p.invariant ∙ sym (types_more xs i p c.loop-p-test.true c.p-item.is)

pub returns : goal.returns
returns c =
    let past : length c.args.params.now ≤ c.loop-p.p-index = omega arith in
    c.loop-p.invariant ∙ ap (λ l. bound_types (named l)) (take_all c.loop-p.p-index c.args.params.now past)
