use Rattle.std.proofs.Common.{◌≡◌, ℕ, ◌+◌, ◌*◌, ◌<◌, ◌^◌, None, length, set, get_or, ℤ, pos, ◌+ℤ◌, to_z, of_z, refl, sym, ◌∙◌, ap, subst, arith}
use Rattle.std.specs.Int.{w128}
use Rattle.std.specs.List.{All}
use Rattle.std.proofs.lemmas.Grind.{get_or_default_zero}
use Rattle.std.proofs.lemmas.Int.{ints}
use Rattle.std.proofs.lemmas.List.{length-set}
use Rattle.std.proofs.lemmas.List.Elements.{All-get_or, All-set}
use Rattle.zo_model.specs.Program.{AtMost, columns}
use Rattle.zo_model.proofs.Scale.{AtMost-wider}
use Rattle.zo_cert_tree.specs.inner.Leaf.{change, changes}
use Rattle.zo_cert_tree.proofs.Drain.{changes_set, change_bounded, product_small, drained, cleared_more, avoids_none}
use Rattle.zo_cert_tree.proofs.Paths.{costs_valid}
use Rattle.zo_cert_tree.proofs.leaf.drain_row.Goals as goal

zero_small : AtMost (2 ^ 99) (pos 0)
zero_small = record { low = omega (arith, ints); high = omega (arith, ints) }

pub change-sum-requires : goal.change-sum-requires
change-sum-requires c =
    let within : (get_or c.args.terms.now c.loop-j.j-index (0, pos 0)).0 < columns c.args.z.now = All-get_or (λ t. t.0 < columns c.args.z.now) c.args.terms.now c.loop-j.j-index (0, pos 0) (omega arith) c.requires.terms.within in
    let inside : (get_or c.args.terms.now c.loop-j.j-index (0, pos 0)).0 < length c.loop-j.weights = omega (arith, c.loop-j.invariant.kept) in
    let small : AtMost (2 ^ 99) (get_or c.loop-j.weights (get_or c.args.terms.now c.loop-j.j-index (0, pos 0)).0 (pos 0)) = All-get_or (AtMost (2 ^ 99)) c.loop-j.weights (get_or c.args.terms.now c.loop-j.j-index (0, pos 0)).0 (pos 0) inside c.loop-j.invariant.bounded in
    record { low = omega (arith, ints, small.low, small.high); high = omega (arith, ints, small.low, small.high) }

pub overflow_add-sum : goal.overflow_add-sum
overflow_add-sum c =
    let col : ℕ = (get_or c.args.terms.now c.loop-j.j-index (0, pos 0)).0 in
    let within : col < columns c.args.z.now = All-get_or (λ t. t.0 < columns c.args.z.now) c.args.terms.now c.loop-j.j-index (0, pos 0) (omega arith) c.requires.terms.within in
    let inside : col < length c.loop-j.weights = omega (arith, c.loop-j.invariant.kept) in
    let w : ℤ = get_or c.loop-j.weights col (pos 0) in
    let small : AtMost (2 ^ 99) w = All-get_or (AtMost (2 ^ 99)) c.loop-j.weights col (pos 0) inside c.loop-j.invariant.bounded in
    let cost : c.index.result.now ≡ get_or c.args.z.now.costs.items col 0 = c.index.ensures ∙ get_or_default_zero c.args.z.now.costs.items col c.index.result.now within in
    let same : to_z w128 (of_z w128 w) ≡ w = omega (arith, ints, small.low, small.high) in
    let r : c.change-sum.result ≡ change (get_or c.args.fixed.now col None) (pos (c.args.d * get_or c.args.z.now.costs.items col 0)) w = c.change-sum.ensures.value ∙ ap (λ v. change (get_or c.args.fixed.now col None) (pos (c.args.d * c.index.result.now)) v) same ∙ ap (λ k. change (get_or c.args.fixed.now col None) (pos (c.args.d * k)) w) cost in
    let more : changes c.args.z.now.costs.items c.args.d c.loop-j.weights c.args.fixed.now (columns c.args.z.now) ≡ c.change-sum.result +ℤ changes c.args.z.now.costs.items c.args.d (set c.loop-j.weights col (pos 0)) c.args.fixed.now (columns c.args.z.now) =
    changes_set c.args.z.now.costs.items c.args.d c.loop-j.weights c.args.fixed.now (columns c.args.z.now) col within inside ∙ ap (λ v. v +ℤ changes c.args.z.now.costs.items c.args.d (set c.loop-j.weights col (pos 0)) c.args.fixed.now (columns c.args.z.now)) (sym r) in
    let next : All (AtMost (2 ^ 99)) (set c.loop-j.weights col (pos 0)) = All-set (AtMost (2 ^ 99)) c.loop-j.weights col (pos 0) zero_small c.loop-j.invariant.bounded in
    let t = drained c.args.z.now.costs.items c.args.d c.args.weights.now c.loop-j.weights (set c.loop-j.weights col (pos 0)) c.args.fixed.now (columns c.args.z.now) (to_z w128 c.loop-j.sum-bits) c.change-sum.result (costs_valid c.args.z.now c.requires.valid) (omega (arith, c.ranges.d)) refl c.requires.columns (length-set c.loop-j.weights col (pos 0) ∙ c.loop-j.invariant.kept ∙ c.requires.columns) c.requires.room next c.loop-j.invariant.value more in
    let rs : AtMost (2 ^ 100) c.change-sum.result = subst (AtMost (2 ^ 100)) (sym r) (AtMost-wider (2 ^ 99 + c.args.d * get_or c.args.z.now.costs.items col 0) (2 ^ 100) _ (omega (arith, product_small c.args.d (get_or c.args.z.now.costs.items col 0) (omega (arith, c.ranges.d)) (All-get_or (λ k. k < 2 ^ 20) c.args.z.now.costs.items col 0 within c.requires.valid.costs_fit))) (change_bounded (get_or c.args.fixed.now col None) (c.args.d * get_or c.args.z.now.costs.items col 0) (2 ^ 99) w small)) in
    omega (arith, ints, t.small.low, t.small.high, rs.low, rs.high)

pub loop-j-preserved : goal.loop-j-preserved
loop-j-preserved c =
    let col : ℕ = (get_or c.args.terms.now c.loop-j.j-index (0, pos 0)).0 in
    let within : col < columns c.args.z.now = All-get_or (λ t. t.0 < columns c.args.z.now) c.args.terms.now c.loop-j.j-index (0, pos 0) (omega arith) c.requires.terms.within in
    let inside : col < length c.loop-j.weights = omega (arith, c.loop-j.invariant.kept) in
    let w : ℤ = get_or c.loop-j.weights col (pos 0) in
    let small : AtMost (2 ^ 99) w = All-get_or (AtMost (2 ^ 99)) c.loop-j.weights col (pos 0) inside c.loop-j.invariant.bounded in
    let cost : c.index.result.now ≡ get_or c.args.z.now.costs.items col 0 = c.index.ensures ∙ get_or_default_zero c.args.z.now.costs.items col c.index.result.now within in
    let same : to_z w128 (of_z w128 w) ≡ w = omega (arith, ints, small.low, small.high) in
    let r : c.change-sum.result ≡ change (get_or c.args.fixed.now col None) (pos (c.args.d * get_or c.args.z.now.costs.items col 0)) w = c.change-sum.ensures.value ∙ ap (λ v. change (get_or c.args.fixed.now col None) (pos (c.args.d * c.index.result.now)) v) same ∙ ap (λ k. change (get_or c.args.fixed.now col None) (pos (c.args.d * k)) w) cost in
    let more : changes c.args.z.now.costs.items c.args.d c.loop-j.weights c.args.fixed.now (columns c.args.z.now) ≡ c.change-sum.result +ℤ changes c.args.z.now.costs.items c.args.d (set c.loop-j.weights col (pos 0)) c.args.fixed.now (columns c.args.z.now) =
    changes_set c.args.z.now.costs.items c.args.d c.loop-j.weights c.args.fixed.now (columns c.args.z.now) col within inside ∙ ap (λ v. v +ℤ changes c.args.z.now.costs.items c.args.d (set c.loop-j.weights col (pos 0)) c.args.fixed.now (columns c.args.z.now)) (sym r) in
    let next : All (AtMost (2 ^ 99)) (set c.loop-j.weights col (pos 0)) = All-set (AtMost (2 ^ 99)) c.loop-j.weights col (pos 0) zero_small c.loop-j.invariant.bounded in
    let t = drained c.args.z.now.costs.items c.args.d c.args.weights.now c.loop-j.weights (set c.loop-j.weights col (pos 0)) c.args.fixed.now (columns c.args.z.now) (to_z w128 c.loop-j.sum-bits) c.change-sum.result (costs_valid c.args.z.now c.requires.valid) (omega (arith, c.ranges.d)) refl c.requires.columns (length-set c.loop-j.weights col (pos 0) ∙ c.loop-j.invariant.kept ∙ c.requires.columns) c.requires.room next c.loop-j.invariant.value more in
    let rs : AtMost (2 ^ 100) c.change-sum.result = subst (AtMost (2 ^ 100)) (sym r) (AtMost-wider (2 ^ 99 + c.args.d * get_or c.args.z.now.costs.items col 0) (2 ^ 100) _ (omega (arith, product_small c.args.d (get_or c.args.z.now.costs.items col 0) (omega (arith, c.ranges.d)) (All-get_or (λ k. k < 2 ^ 20) c.args.z.now.costs.items col 0 within c.requires.valid.costs_fit))) (change_bounded (get_or c.args.fixed.now col None) (c.args.d * get_or c.args.z.now.costs.items col 0) (2 ^ 99) w small)) in
    let sum : to_z w128 (of_z w128 (to_z w128 c.loop-j.sum-bits +ℤ to_z w128 (of_z w128 c.change-sum.result))) ≡ to_z w128 c.loop-j.sum-bits +ℤ c.change-sum.result = omega (arith, ints, t.small.low, t.small.high, rs.low, rs.high) in
    record {
      kept = length-set c.loop-j.weights col (pos 0) ∙ c.loop-j.invariant.kept;
      value = t.value ∙ ap (λ v. v +ℤ changes c.args.z.now.costs.items c.args.d (set c.loop-j.weights col (pos 0)) c.args.fixed.now (columns c.args.z.now)) (sym sum);
      cleared = λ j h k. cleared_more c.args.terms.now c.loop-j.weights c.loop-j.j-index j (omega arith) inside (c.loop-j.invariant.cleared j h) k;
      bounded = next;
    }

pub returns-clause-cleared : goal.returns-clause-cleared
returns-clause-cleared c j h = c.loop-j.invariant.cleared j h (avoids_none j c.args.terms.now c.loop-j.j-index (omega arith))
