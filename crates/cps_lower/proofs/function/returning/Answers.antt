use Rattle.std.proofs.Common.{◌≡◌, ◌+◌, refl, rules, arith}
use Rattle.cps_lower.proofs.Handing.{names_none, names_more, names_all}
use Rattle.cps_lower.proofs.function.returning.Goals as goal

pub loop-i-init : goal.loop-i-init
loop-i-init c = names_none _ _ _ c.new-params.ensures.items c.new-words.ensures.items

pub loop-i-preserved : goal.loop-i-preserved
loop-i-preserved c =
    let sum : c.in-Some.x ≡ c.args.first + c.loop-i.i = search rules in
    names_more _ _ _ c.in-Some.x _ _ _ _ c.loop-i.invariant refl sum c.in_ok-push-in-Some.ensures.items c.in_ok-push-in-Some-2.ensures.items

pub returns : goal.returns
returns c =
    let all = names_all c.args.first c.loop-i.i c.args.count c.loop-i.params c.loop-i.words c.loop-i.invariant (omega (arith, c.loop-i-test.false, c.loop-i.auto.i-end)) in
    (refl, all.0, all.1)
