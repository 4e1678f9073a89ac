use Rattle.std.proofs.Common.{sym, ◌∙◌, arith}
use Rattle.nv_base.specs.Sets.{all_vars}
use Rattle.nova_middle.proofs.Members.{beside_more, beside_same}
use Rattle.nova_middle.proofs.rows.Row.beside.Goals.{then-not-in_all, else-not-in_all}
use Rattle.nova_middle.proofs.rows.Row.beside.Goals as goal

pub loop-x-preserved : goal.loop-x-preserved
loop-x-preserved c = elim c.if-not-in_all.branch [
  | then-not-in_all w ↦ beside_more c.args.self.now.xs.items c.deref-x-items.result.now (all_vars c.args.atoms.now) c.loop-x.x-index _ c.loop-x.n _ c.deref-x-items.ensures.value (omega arith) c.args.self.now.once (sym c.in_all.ensures ∙ w.if-not-in_all.true) w.n-is c.loop-x.invariant
  | else-not-in_all w ↦ beside_same c.args.self.now.xs.items c.deref-x-items.result.now (all_vars c.args.atoms.now) c.loop-x.x-index _ c.loop-x.n _ c.deref-x-items.ensures.value (omega arith) c.args.self.now.once (sym c.in_all.ensures ∙ w.if-not-in_all.false) w.n-is c.loop-x.invariant
]
