use Rattle.std.proofs.Common.{◌≡◌, ℕ, ◌<◌, ◌^◌, length, get_or, pos, ◌+ℤ◌, to_z, of_z, refl, sym, ◌∙◌, ap, subst, arith}
use Rattle.std.specs.Int.{w128}
use Rattle.std.proofs.lemmas.Int.{ints}
use Rattle.std.proofs.lemmas.List.Elements.{All-from_get_or}
use Rattle.zo_model.specs.Program.{AreSmallTerms, columns}
use Rattle.zo_model.proofs.Rows.{rise_at, terms_small}
use Rattle.zo_cert_tree.specs.inner.Leaf.{changes, Avoids}
use Rattle.zo_cert_tree.specs.Certificate.{terms_of}
use Rattle.zo_cert_tree.proofs.Drain.{drained, taken_small, rows_more, rows_none, weight_avoided, changes_clear}
use Rattle.zo_cert_tree.proofs.Leaves.{named}
use Rattle.zo_cert_tree.proofs.Paths.{costs_valid}
use Rattle.zo_cert_tree.proofs.leaf.drain.Goals as goal

pub loop-i-init : goal.loop-i-init
loop-i-init c = record {
  kept = c.requires.columns;
  value = omega (arith, ints);
  cleared = λ j lt h. c.requires.value j lt ∙ weight_avoided c.args.z.now c.args.multipliers.now j h;
  bounded = c.requires.room;
}

pub index-requires : goal.index-requires
index-requires c = let r = rise_at c.args.multipliers.now 0 (length c.args.z.now.rows.items) c.loop-i.i-index (0, 0) c.requires.rows (omega arith) in omega (arith, r)

pub drain_row-sum-requires : goal.drain_row-sum-requires
drain_row-sum-requires c =
    let n = named c.args.z.now c.args.multipliers.now c.loop-i.i-index c.index.result.now c.requires.valid c.requires.rows (omega arith) c.index.ensures in
    record {
      valid = c.requires.valid;
      columns = c.loop-i.invariant.kept;
      places = c.requires.places;
      terms = subst (AreSmallTerms (columns c.args.z.now)) (sym c.deref.ensures.value) (terms_small (columns c.args.z.now) c.index.result.now.terms.items n.1.terms_fit);
      room = c.loop-i.invariant.bounded;
    }

pub overflow_add-sum : goal.overflow_add-sum
overflow_add-sum c =
    let n = named c.args.z.now c.args.multipliers.now c.loop-i.i-index c.index.result.now c.requires.valid c.requires.rows (omega arith) c.index.ensures in
    let fit = costs_valid c.args.z.now c.requires.valid in
    let d_small : c.args.d < 2 ^ 32 = omega (arith, c.ranges.d) in
    let same : length c.drain_row-sum.new.weights ≡ columns c.args.z.now = omega (arith, c.loop-i.invariant.kept) in
    let t = drained c.args.z.now.costs.items c.args.d c.args.weights.now c.loop-i.weights c.drain_row-sum.new.weights c.args.fixed.now (columns c.args.z.now) (to_z w128 c.loop-i.sum-bits) c.drain_row-sum.result fit d_small refl c.requires.columns same c.requires.room c.drain_row-sum.ensures.bounded c.loop-i.invariant.value c.drain_row-sum.ensures.value in
    let r = taken_small c.args.z.now.costs.items c.args.d c.loop-i.weights c.drain_row-sum.new.weights c.args.fixed.now (columns c.args.z.now) c.drain_row-sum.result fit d_small refl c.loop-i.invariant.kept same c.loop-i.invariant.bounded c.drain_row-sum.ensures.bounded c.drain_row-sum.ensures.value in
    omega (arith, ints, t.small.low, t.small.high, r.low, r.high)

pub loop-i-preserved : goal.loop-i-preserved
loop-i-preserved c =
    let n = named c.args.z.now c.args.multipliers.now c.loop-i.i-index c.index.result.now c.requires.valid c.requires.rows (omega arith) c.index.ensures in
    let fit = costs_valid c.args.z.now c.requires.valid in
    let d_small : c.args.d < 2 ^ 32 = omega (arith, c.ranges.d) in
    let same : length c.drain_row-sum.new.weights ≡ columns c.args.z.now = omega (arith, c.loop-i.invariant.kept) in
    let t = drained c.args.z.now.costs.items c.args.d c.args.weights.now c.loop-i.weights c.drain_row-sum.new.weights c.args.fixed.now (columns c.args.z.now) (to_z w128 c.loop-i.sum-bits) c.drain_row-sum.result fit d_small refl c.requires.columns same c.requires.room c.drain_row-sum.ensures.bounded c.loop-i.invariant.value c.drain_row-sum.ensures.value in
    let r = taken_small c.args.z.now.costs.items c.args.d c.loop-i.weights c.drain_row-sum.new.weights c.args.fixed.now (columns c.args.z.now) c.drain_row-sum.result fit d_small refl c.loop-i.invariant.kept same c.loop-i.invariant.bounded c.drain_row-sum.ensures.bounded c.drain_row-sum.ensures.value in
    let sum : to_z w128 (of_z w128 (to_z w128 c.loop-i.sum-bits +ℤ to_z w128 (of_z w128 c.drain_row-sum.result))) ≡ to_z w128 c.loop-i.sum-bits +ℤ c.drain_row-sum.result = omega (arith, ints, t.small.low, t.small.high, r.low, r.high) in
    record {
      kept = same;
      value = t.value ∙ ap (λ v. v +ℤ changes c.args.z.now.costs.items c.args.d c.drain_row-sum.new.weights c.args.fixed.now (columns c.args.z.now)) (sym sum);
      cleared = λ j lt h. c.drain_row-sum.ensures.cleared j (λ a. c.loop-i.invariant.cleared j lt (rows_more c.args.z.now j c.args.multipliers.now c.loop-i.i-index (omega arith) (subst (Avoids j) (c.deref.ensures.value ∙ ap terms_of (sym n.0)) a) h));
      bounded = c.drain_row-sum.ensures.bounded;
    }

pub returns : goal.returns
returns c =
    let zero : (j : ℕ) → j < columns c.args.z.now → get_or c.loop-i.weights j (pos 0) ≡ pos 0 = λ j lt. c.loop-i.invariant.cleared j lt (rows_none c.args.z.now j c.args.multipliers.now c.loop-i.i-index (omega arith)) in
    let none : changes c.args.z.now.costs.items c.args.d c.loop-i.weights c.args.fixed.now (columns c.args.z.now) ≡ pos 0 = changes_clear c.args.z.now.costs.items c.args.d c.loop-i.weights c.args.fixed.now (columns c.args.z.now) zero in
    let was = c.loop-i.invariant.value in
    record {
      value = omega (arith, ints);
      bounded = taken_small c.args.z.now.costs.items c.args.d c.args.weights.now c.loop-i.weights c.args.fixed.now (columns c.args.z.now) (to_z w128 c.loop-i.sum-bits) (costs_valid c.args.z.now c.requires.valid) (omega (arith, c.ranges.d)) refl c.requires.columns c.loop-i.invariant.kept c.requires.room c.loop-i.invariant.bounded c.loop-i.invariant.value;
      clear = record { one_a_column = c.loop-i.invariant.kept; zero = All-from_get_or (λ w. w ≡ pos 0) c.loop-i.weights (pos 0) (λ j lt. zero j (omega (arith, c.loop-i.invariant.kept))) };
    }
