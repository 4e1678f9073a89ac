use Rattle.std.proofs.Common.{◌≡◌, ℕ, ◌<◌, ◌+◌, ◌*◌, ◌^◌, length, get_or, ℤ, pos, ◌+ℤ◌, ◌*ℤ◌, to_z, of_z, subst, sym, ◌∙◌, ap, arith, refl}
use Rattle.std.proofs.lemmas.Int.{ints}
use Rattle.std.proofs.lemmas.List.Elements.{All-get_or, All-weaker}
use Rattle.std.proofs.lemmas.List.{length-set}
use Rattle.std.specs.Int.{w128}
use Rattle.std.proofs.Common.{[]}
use Rattle.zo_model.specs.Program.{AtMost}
use Rattle.zo_cert_tree.specs.Certificate.{coefficient}
use Rattle.zo_model.proofs.Scale.{product_bounded, AtMost-wider, scale-zero}
use Rattle.zo_cert_tree.proofs.Leaves.{added_step, bounded_step, coefficient-none}
use Rattle.zo_cert_tree.proofs.leaf.add_row.Goals as goal

pub loop-j-init : goal.loop-j-init
loop-j-init c = record {
  kept = refl;
  added = λ j h. let e : pos c.args.m *ℤ coefficient [] j ≡ pos 0 = ap (λ v. pos c.args.m *ℤ v) (coefficient-none j) ∙ scale-zero c.args.m in omega (arith, ints);
  bounded = λ b h. All-weaker (AtMost b) (AtMost (b + 0)) (λ v k. AtMost-wider b (b + 0) v (omega arith) k) c.args.weights.now h;
}

pub overflow_add-weights : goal.overflow_add-weights
overflow_add-weights c =
    let term : ℕ × ℤ = get_or c.args.terms.now c.loop-j.j-index (0, pos 0) in
    let fit : AtMost (2 ^ 15) term.1 = All-get_or (λ t. AtMost (2 ^ 15) t.1) c.args.terms.now c.loop-j.j-index (0, pos 0) (omega arith) c.requires.terms.coefficients_fit in
    let value : c.product.result ≡ pos c.args.m *ℤ term.1 = c.product.ensures.value ∙ ap (λ v. pos c.args.m *ℤ v) (omega (arith, ints, fit.low, fit.high)) in
    let small : AtMost (2 ^ 47) c.product.result = subst (AtMost (2 ^ 47)) (sym value) (product_bounded c.args.m (2 ^ 15) term.1 (omega (arith, c.ranges.m)) fit) in
    let within : term.0 < length c.args.weights.now = All-get_or (λ t. t.0 < length c.args.weights.now) c.args.terms.now c.loop-j.j-index (0, pos 0) (omega arith) c.requires.terms.within in
    let inside : term.0 < length c.loop-j.weights = omega (arith, within) in
    let was : AtMost (2 ^ 100 + 2 ^ 47 * c.loop-j.j-index) (get_or c.loop-j.weights term.0 (pos 0)) = All-get_or (AtMost (2 ^ 100 + 2 ^ 47 * c.loop-j.j-index)) c.loop-j.weights term.0 (pos 0) inside (c.loop-j.invariant.bounded (2 ^ 100) c.requires.room) in
    omega (arith, ints, small.low, small.high, was.low, was.high)

pub loop-j-preserved : goal.loop-j-preserved
loop-j-preserved c =
    let term : ℕ × ℤ = get_or c.args.terms.now c.loop-j.j-index (0, pos 0) in
    let fit : AtMost (2 ^ 15) term.1 = All-get_or (λ t. AtMost (2 ^ 15) t.1) c.args.terms.now c.loop-j.j-index (0, pos 0) (omega arith) c.requires.terms.coefficients_fit in
    let value : c.product.result ≡ pos c.args.m *ℤ term.1 = c.product.ensures.value ∙ ap (λ v. pos c.args.m *ℤ v) (omega (arith, ints, fit.low, fit.high)) in
    let small : AtMost (2 ^ 47) c.product.result = subst (AtMost (2 ^ 47)) (sym value) (product_bounded c.args.m (2 ^ 15) term.1 (omega (arith, c.ranges.m)) fit) in
    let within : term.0 < length c.args.weights.now = All-get_or (λ t. t.0 < length c.args.weights.now) c.args.terms.now c.loop-j.j-index (0, pos 0) (omega arith) c.requires.terms.within in
    let inside : term.0 < length c.loop-j.weights = omega (arith, within) in
    let was : AtMost (2 ^ 100 + 2 ^ 47 * c.loop-j.j-index) (get_or c.loop-j.weights term.0 (pos 0)) = All-get_or (AtMost (2 ^ 100 + 2 ^ 47 * c.loop-j.j-index)) c.loop-j.weights term.0 (pos 0) inside (c.loop-j.invariant.bounded (2 ^ 100) c.requires.room) in
    let x : ℤ = to_z w128 (of_z w128 (to_z w128 (of_z w128 (get_or c.loop-j.weights term.0 (pos 0))) +ℤ to_z w128 (of_z w128 c.product.result))) in
    let xe : x ≡ get_or c.loop-j.weights term.0 (pos 0) +ℤ c.product.result = omega (arith, ints, small.low, small.high, was.low, was.high) in
    record {
      kept = length-set c.loop-j.weights term.0 x ∙ c.loop-j.invariant.kept;
      added = added_step c.args.weights.now c.loop-j.weights c.args.terms.now c.args.m c.loop-j.j-index term.0 term.1 c.product.result x (omega arith) refl refl value inside xe c.loop-j.invariant.added;
      bounded = λ b h. bounded_step c.loop-j.weights c.loop-j.j-index term.0 b c.product.result x (pos 0) inside small xe (c.loop-j.invariant.bounded b h);
    }

pub returns-clause-bounded : goal.returns-clause-bounded
returns-clause-bounded c b h = All-weaker (AtMost (b + 2 ^ 47 * c.loop-j.j-index)) (AtMost (b + 2 ^ 73)) (λ v k. AtMost-wider (b + 2 ^ 47 * c.loop-j.j-index) (b + 2 ^ 73) v (omega arith) k) c.loop-j.weights (c.loop-j.invariant.bounded b h)
