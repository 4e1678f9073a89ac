use Rattle.std.proofs.Common.{◌-◌, ◌+◌, get_or, refl, ap, ◌∙◌, arith}
use Rattle.nv_base.specs.declared.term.Atom.TheVariants.{Var}
use Rattle.ssu_make.specs.inner.Making.{counted}
use Rattle.ssu_make.proofs.Turns.{named-more}
use Rattle.ssu_make.proofs.naming.operands.Goals as goal

pub loop-i-preserved : goal.loop-i-preserved
loop-i-preserved c =
    let list = c.args.list.now in
    let j = c.loop-i.i - 1 in
    named-more (counted c.args.bases.now) (counted c.args.counts.now) (counted c.loop-i.counts) (counted c.operand.new.counts) c.args.fresh.now c.loop-i.fresh c.in_ok-fresh.field-0 c.loop-i.i j list (Var 0) (get_or list j (Var 0))
    c.loop-i.v.items c.push.new.self.items c.in_ok-operand.field-0 c.loop-i.invariant (omega arith) refl c.in_ok-operand.ensures.name c.in_ok-push.ensures.items c.in_ok-operand.ensures.counts
    (c.in_ok-fresh.ensures ∙ ap (λ k. c.loop-i.fresh + k) c.taken.ensures)
