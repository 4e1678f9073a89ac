use Rattle.std.proofs.Common.{◌≡◌, ℕ, ◌<◌, ◌+◌, ◌*◌, ◌^◌, length, get_or, ℤ, pos, ◌+ℤ◌, to_z, of_z, refl, ◌∙◌, ap, arith}
use Rattle.std.specs.Int.{w128}
use Rattle.std.proofs.lemmas.Int.{ints}
use Rattle.std.proofs.lemmas.List.{length-set}
use Rattle.std.proofs.lemmas.List.Elements.{All-get_or}
use Rattle.zo_model.specs.Program.{AtMost}
use Rattle.zo_solve_dive.specs.inner.Keeping.{moved}
use Rattle.zo_solve_dive.proofs.Along.{along-none, moved_bounded, moved_step, with_bounded}
use Rattle.zo_solve_dive.proofs.tables.move_sums.Goals as goal

pub loop-i-init : goal.loop-i-init
loop-i-init c = record {
  kept = refl;
  added = λ i h. let e = along-none i (moved c.args.old c.args.new) in omega (arith, ints, e);
}

pub overflow_add-sums : goal.overflow_add-sums
overflow_add-sums c =
    let entry : ℕ × ℤ = get_or c.args.entries.now c.loop-i.i-index (0, pos 0) in
    let fit : AtMost (2 ^ 15) entry.1 = All-get_or (λ e. AtMost (2 ^ 15) e.1) c.args.entries.now c.loop-i.i-index (0, pos 0) (omega arith) c.requires.entries.small in
    let value : c.moved.result ≡ moved c.args.old c.args.new entry.1 = c.moved.ensures ∙ ap (moved c.args.old c.args.new) (omega (arith, ints, fit.low, fit.high)) in
    let small : AtMost (2 ^ 16) (moved c.args.old c.args.new entry.1) = moved_bounded c.args.old c.args.new entry.1 fit in
    let within : entry.0 < length c.args.sums.now = All-get_or (λ e. e.0 < length c.args.sums.now) c.args.entries.now c.loop-i.i-index (0, pos 0) (omega arith) c.requires.entries.within in
    let was : AtMost (2 ^ 42 + 2 ^ 16 * c.loop-i.i-index) (get_or c.loop-i.sums entry.0 (pos 0)) = with_bounded entry.0 c.args.old c.args.new c.args.entries.now c.loop-i.i-index (get_or c.args.sums.now entry.0 (pos 0)) (get_or c.loop-i.sums entry.0 (pos 0)) (omega arith) c.requires.entries.small (c.requires.small entry.0 within) (c.loop-i.invariant.added entry.0 within) in
    omega (arith, ints, value, small.low, small.high, was.low, was.high)

pub loop-i-preserved : goal.loop-i-preserved
loop-i-preserved c =
    let entry : ℕ × ℤ = get_or c.args.entries.now c.loop-i.i-index (0, pos 0) in
    let fit : AtMost (2 ^ 15) entry.1 = All-get_or (λ e. AtMost (2 ^ 15) e.1) c.args.entries.now c.loop-i.i-index (0, pos 0) (omega arith) c.requires.entries.small in
    let value : c.moved.result ≡ moved c.args.old c.args.new entry.1 = c.moved.ensures ∙ ap (moved c.args.old c.args.new) (omega (arith, ints, fit.low, fit.high)) in
    let small : AtMost (2 ^ 16) (moved c.args.old c.args.new entry.1) = moved_bounded c.args.old c.args.new entry.1 fit in
    let within : entry.0 < length c.args.sums.now = All-get_or (λ e. e.0 < length c.args.sums.now) c.args.entries.now c.loop-i.i-index (0, pos 0) (omega arith) c.requires.entries.within in
    let inside : entry.0 < length c.loop-i.sums = omega (arith, within) in
    let was : AtMost (2 ^ 42 + 2 ^ 16 * c.loop-i.i-index) (get_or c.loop-i.sums entry.0 (pos 0)) = with_bounded entry.0 c.args.old c.args.new c.args.entries.now c.loop-i.i-index (get_or c.args.sums.now entry.0 (pos 0)) (get_or c.loop-i.sums entry.0 (pos 0)) (omega arith) c.requires.entries.small (c.requires.small entry.0 within) (c.loop-i.invariant.added entry.0 within) in
    let x : ℤ = to_z w128 (of_z w128 (to_z w128 (of_z w128 (get_or c.loop-i.sums entry.0 (pos 0))) +ℤ to_z w128 (of_z w128 c.moved.result))) in
    let xe : x ≡ get_or c.loop-i.sums entry.0 (pos 0) +ℤ c.moved.result = omega (arith, ints, value, small.low, small.high, was.low, was.high) in
    record {
      kept = length-set c.loop-i.sums entry.0 x ∙ c.loop-i.invariant.kept;
      added = moved_step c.args.sums.now c.loop-i.sums c.args.entries.now (moved c.args.old c.args.new) c.loop-i.i-index entry.0 entry.1 c.moved.result x (omega arith) refl refl value inside xe c.loop-i.invariant.added;
    }
