use Rattle.std.proofs.Common.{◌≡◌, ◌*◌, ◌≤◌, ◌^◌, pos, ◌*ℤ◌, to_z, of_z, ◌∙◌, ap, arith}
use Rattle.std.specs.Int.{w128}
use Rattle.std.proofs.Math.Nat.{mul-le-mul}
use Rattle.std.proofs.lemmas.Int.{ints}
use Rattle.zo_cert_tree.proofs.leaf.scaled.Goals as goal

pub returns : goal.returns
returns c =
    let hd : c.args.d ≤ 2 ^ 32 = omega (arith, c.ranges.d) in
    let hc : c.args.cost ≤ 2 ^ 46 = c.requires in
    let le : c.args.d * c.args.cost ≤ 2 ^ 32 * 2 ^ 46 = mul-le-mul hd hc in
    let a : to_z w128 (of_z w128 c.from.result) ≡ pos c.args.d = omega (arith, ints) in
    let b : to_z w128 (of_z w128 c.from-2.result) ≡ pos c.args.cost = omega (arith, ints) in
    let e : to_z w128 (of_z w128 c.from.result) *ℤ to_z w128 (of_z w128 c.from-2.result) ≡ pos (c.args.d * c.args.cost) = ap (λ u. u *ℤ to_z w128 (of_z w128 c.from-2.result)) a ∙ ap (λ v. pos c.args.d *ℤ v) b in
    let value : to_z w128 (of_z w128 (to_z w128 (of_z w128 c.from.result) *ℤ to_z w128 (of_z w128 c.from-2.result))) ≡ pos (c.args.d * c.args.cost) = ap (λ v. to_z w128 (of_z w128 v)) e ∙ omega (arith, ints) in
    record { value = value; bounded = record { low = omega (arith, ints); high = omega (arith, ints) } }
