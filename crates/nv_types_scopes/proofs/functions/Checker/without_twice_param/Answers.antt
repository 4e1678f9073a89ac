use Rattle.std.proofs.Common.{◌∙◌, ◌++◌, ◌∷◌, ◌≤◌, [], ap, sym, subst, length, arith}
use Rattle.std.proofs.lemmas.List.{take_all}
use Rattle.nv_ast.specs.Tests.{names_of}
use Rattle.nv_ast.specs.Faults.{at_span, variable_twice}
use Rattle.nv_types_table.specs.inner.Faulty.{Judges}
use Rattle.nv_types_table.specs.inner.Named.{named, plain_names}
use Rattle.nv_types_table.proofs.Found.{plain-append}
use Rattle.nv_types_scopes.proofs.Params.{names_more}
use Rattle.nv_types_scopes.proofs.functions.Checker.without_twice_param.Goals as goal

pub loop-p-preserved : goal.loop-p-preserved
loop-p-preserved c =
    let i = c.loop-p.p-index in
    let xs = c.args.params.now in
    let p = c.p-item.result in
    ap plain_names c.in_ok-push.ensures.items ∙ plain-append c.loop-p.names.items (p.0 ∷ []) ∙ ap (λ l. l ++ p.0.now ∷ []) c.loop-p.invariant ∙ sym (names_more xs i p c.loop-p-test.true c.p-item.is)

pub returns : goal.returns
returns c =
    let past : length c.args.params.now ≤ c.loop-p.p-index = omega arith in
    subst (λ names. Judges (at_span c.args.span (variable_twice names)) c.without_twice.result)
    (ap plain_names c.deref.ensures.value ∙ c.loop-p.invariant ∙ ap (λ l. names_of (named l)) (take_all c.loop-p.p-index c.args.params.now past))
    c.without_twice.ensures
