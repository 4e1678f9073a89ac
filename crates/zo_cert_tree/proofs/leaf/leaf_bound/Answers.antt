use Rattle.std.proofs.Common.{◌≡◌, pos, ◌*ℤ◌, ◌∙◌, ap, arith}
use Rattle.std.proofs.lemmas.Int.{ints}
use Rattle.zo_model.specs.Program.{costs_of, columns}
use Rattle.zo_cert_tree.specs.inner.Leaf.{changes}
use Rattle.zo_cert_tree.specs.Fixing.{ones}
use Rattle.zo_cert_tree.specs.inner.Path.{current}
use Rattle.zo_cert_tree.proofs.Drain.{bound_is}
use Rattle.zo_cert_tree.proofs.leaf.leaf_bound.Goals as goal

pub returns-clause-value : goal.returns-clause-value
returns-clause-value c =
    let b = bound_is c.args.z.now c.args.d c.args.multipliers.now c.weigh.new.weights (current c.args.path.now.fixings) c.weigh.ensures.value in
    let l = c.least_total.ensures.bounded in
    let s = c.scaled.ensures.bounded in
    let p = c.drain-changes.ensures.bounded in
    let fixed : c.deref.result.now ≡ current c.args.path.now.fixings = c.deref.ensures.value ∙ c.fixed.ensures.first in
    let pv : c.drain-changes.result ≡ changes c.args.z.now.costs.items c.args.d c.weigh.new.weights (current c.args.path.now.fixings) (columns c.args.z.now) = c.drain-changes.ensures.value ∙ ap (λ f. changes c.args.z.now.costs.items c.args.d c.weigh.new.weights f (columns c.args.z.now)) fixed in
    let sv : c.scaled.result ≡ pos c.args.d *ℤ pos (costs_of c.args.z.now.costs.items (ones (current c.args.path.now.fixings))) = c.scaled.ensures.value ∙ ap (λ v. pos c.args.d *ℤ pos v) (c.spent.ensures.cost ∙ ap (λ cs. costs_of cs (ones (current c.args.path.now.fixings))) c.requires.path) in
    let lv = c.least_total.ensures.value in
    omega (arith, ints, l.low, l.high, s.low, s.high, p.low, p.high)
