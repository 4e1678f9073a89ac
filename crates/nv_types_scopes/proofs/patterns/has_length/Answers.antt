use Rattle.std.proofs.Common.{◌≡◌, ◌∙◌, ap, sym, subst, arith, is_none}
use Rattle.nv_types_table.proofs.RowEdges.{none_test}
use Rattle.nv_types_scopes.proofs.Walked.{IsAfter, after_none, after_some, after_all}
use Rattle.nv_types_scopes.proofs.patterns.has_length.Goals as goal

pub returns-in_default : goal.returns-in_default
returns-in_default c = after_none c.args.table.now c.args.types c.loop-i.list c.loop-i.i c.args.length c.loop-i.invariant (sym c.in_default.ensures.value) c.loop-i-test.true

pub loop-i-preserved : goal.loop-i-preserved
loop-i-preserved c = after_some c.args.table.now c.in-Some.ensures.store c.args.types c.loop-i.list c.loop-i.i _ c.in-Some.rest c.loop-i.invariant (sym c.in-Some.ensures.value)

pub returns : goal.returns
returns c = λ us h.
    let at : c.loop-i.i ≡ c.args.length = omega (arith, c.loop-i-test.false, c.loop-i.auto.i-end) in
    none_test c.first_part-2.result c.is_none.result c.is_none.ensures ∙ ap is_none c.first_part-2.ensures.value
    ∙ after_all c.args.table.now c.first_part-2.ensures.store c.args.types c.loop-i.list c.args.length (subst (λ n. IsAfter c.args.table.now c.args.types c.loop-i.list n) at c.loop-i.invariant) us h
