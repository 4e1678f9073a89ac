use Rattle.std.proofs.Common.{get_or, take, subst, sym, arith}
use Rattle.std.proofs.lemmas.List.{take_more}
use Rattle.ssu_make.specs.inner.Making.{counted, LaidOut}
use Rattle.ssu_make.proofs.NodeForms.{laid-more}
use Rattle.ssu_make.proofs.bases.lay_out.Goals as goal

pub loop-x-preserved : goal.loop-x-preserved
loop-x-preserved c =
    let xs = c.args.variables.now in
    let i = c.loop-x.x-index in
    let x = get_or xs i 0 in
    subst (λ l. LaidOut (counted c.put.new.self) (counted c.args.counts.now) c.args.fresh.now c.in_ok-fresh.field-0 l) (sym (take_more xs i 0 (omega arith)))
    (laid-more (counted c.loop-x.bases) (counted c.put.new.self) (counted c.args.counts.now) c.args.fresh.now c.loop-x.fresh c.in_ok-fresh.field-0 x (take i xs) c.loop-x.invariant c.in_ok-put.ensures
    (omega (arith, c.in_ok-fresh.ensures, c.in_ok-plus.ensures, c.at.ensures)))
