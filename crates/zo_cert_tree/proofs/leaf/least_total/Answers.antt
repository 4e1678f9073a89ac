use Rattle.std.proofs.Common.{◌≡◌, ℕ, ◌*◌, ◌^◌, length, get_or, ℤ, pos, ◌*ℤ◌, subst, sym, ◌∙◌, ap, arith}
use Rattle.std.proofs.lemmas.Int.{ints}
use Rattle.zo_model.specs.Program.{AtMost}
use Rattle.zo_model.proofs.Scale.{AtMost-wider, product_bounded}
use Rattle.zo_model.proofs.Rows.{rise_at}
use Rattle.zo_cert_tree.proofs.Leaves.{named, few, least_sum-none, least_sum-more}
use Rattle.zo_cert_tree.proofs.leaf.least_total.Goals as goal

pub loop-i-init : goal.loop-i-init
loop-i-init c = record { value = sym (least_sum-none c.args.z.now); bounded = record { low = omega (arith, ints); high = omega (arith, ints) } }

pub index-requires : goal.index-requires
index-requires c = let r = rise_at c.args.multipliers.now 0 (length c.args.z.now.rows.items) c.loop-i.i-index (0, 0) c.requires.rows (omega arith) in omega (arith, r)

pub loop-i-preserved : goal.loop-i-preserved
loop-i-preserved c =
    let n = named c.args.z.now c.args.multipliers.now c.loop-i.i-index c.index.result.now c.requires.valid c.requires.rows (omega arith) c.index.ensures in
    let k = few c.args.z.now c.args.multipliers.now c.requires.valid c.requires.rows in
    let m : ℕ = (get_or c.args.multipliers.now c.loop-i.i-index (0, 0)).1 in
    let r : ℤ = c.index.result.now.least in
    let fit : AtMost (2 ^ 30) r = n.1.least_fits in
    let value : c.product-sum.result ≡ pos m *ℤ r = c.product-sum.ensures.value ∙ ap (λ v. pos m *ℤ v) (omega (arith, ints, fit.low, fit.high)) in
    let small : AtMost (2 ^ 62) c.product-sum.result = subst (AtMost (2 ^ 62)) (sym value) (product_bounded m (2 ^ 30) r c.product-sum.ensures.range fit) in
    let was = c.loop-i.invariant.bounded in
    let more = least_sum-more c.args.z.now c.args.multipliers.now c.loop-i.i-index c.index.result.now (omega arith) n.0 in
    record {
      value = omega (arith, ints, small.low, small.high, was.low, was.high);
      bounded = record { low = omega (arith, ints, small.low, small.high, was.low, was.high); high = omega (arith, ints, small.low, small.high, was.low, was.high) };
    }

pub returns-clause-bounded : goal.returns-clause-bounded
returns-clause-bounded c =
    let k = few c.args.z.now c.args.multipliers.now c.requires.valid c.requires.rows in
    AtMost-wider (2 ^ 62 * c.loop-i.i-index) (2 ^ 88) _ (omega arith) c.loop-i.invariant.bounded
