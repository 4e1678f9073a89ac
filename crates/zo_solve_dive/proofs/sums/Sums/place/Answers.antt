use Rattle.std.proofs.Common.{◌≡◌, ◌<◌, ◌++◌, List, length, take, drop, get_or, set, Some, slice_get, ℤ, pos, refl, sym, ◌∙◌, ap, subst, arith, rules}
use Rattle.std.proofs.lemmas.Option.{slice_get_read}
use Rattle.zo_model.specs.Program.{columns}
use Rattle.zo_cert_tree.proofs.Paths.{whole_back}
use Rattle.zo_solve_dive.specs.Sums.{SumsOf}
use Rattle.zo_solve_dive.specs.inner.Keeping.{KeepsSums, moved}
use Rattle.zo_solve_dive.proofs.Placed.{column_at, gains, may_move, placed, reach_small, small_shown, sum_small}
use Rattle.zo_solve_dive.proofs.sums.Sums.place.Goals as goal

pub move_sums-requires : goal.move_sums-requires
move_sums-requires c =
    let lt : c.args.column < length c.self.inside.fixed.at.items = subst (λ (s : SumsOf). c.args.column < length s.fixed) (sym c.self.view_is) c.requires in
    let there : c.args.column < columns c.self.inside.z.now = omega (arith, lt, c.self.invariant.places) in
    let at = column_at c.self.inside.z.now c.self.inside.columns.items c.args.column c.index.result.now c.self.invariant.transposed there c.index.ensures in
    record {
      entries = may_move (length c.self.inside.z.now.rows.items) c.self.inside.reaches.items c.deref_mut.result.now c.index.result.now.items c.deref.result.now c.deref_mut.ensures.value c.deref.ensures.value c.self.invariant.reach_a_row at.1;
      small = small_shown (length c.self.inside.z.now.rows.items) c.self.inside.reaches.items c.deref_mut.result.now c.deref_mut.ensures.value c.self.invariant.reach_a_row (λ i h. reach_small c.self.inside.z.now c.self.inside.fixed.at.items i (get_or c.self.inside.reaches.items i (pos 0)) c.self.invariant.valid (c.self.invariant.reaches_are i h));
    }

pub move_sums-requires-2 : goal.move_sums-requires-2
move_sums-requires-2 c =
    let lt : c.args.column < length c.self.inside.fixed.at.items = subst (λ (s : SumsOf). c.args.column < length s.fixed) (sym c.self.view_is) c.requires in
    let there : c.args.column < columns c.self.inside.z.now = omega (arith, lt, c.self.invariant.places) in
    let at = column_at c.self.inside.z.now c.self.inside.columns.items c.args.column c.index-2.result.now c.self.invariant.transposed there c.index-2.ensures in
    record {
      entries = may_move (length c.self.inside.z.now.rows.items) c.self.inside.ones.items c.deref_mut-2.result.now c.index-2.result.now.items c.deref-2.result.now c.deref_mut-2.ensures.value c.deref-2.ensures.value c.self.invariant.sum_a_row at.1;
      small = small_shown (length c.self.inside.z.now.rows.items) c.self.inside.ones.items c.deref_mut-2.result.now c.deref_mut-2.ensures.value c.self.invariant.sum_a_row (λ i h. sum_small c.self.inside.z.now c.self.inside.fixed.at.items i (get_or c.self.inside.ones.items i (pos 0)) c.self.invariant.valid (c.self.invariant.sums_are i h));
    }

pub invariant_of-self : goal.invariant_of-self
invariant_of-self c =
    let lt : c.args.column < length c.self.inside.fixed.at.items = subst (λ (s : SumsOf). c.args.column < length s.fixed) (sym c.self.view_is) c.requires in
    let there : c.args.column < columns c.self.inside.z.now = omega (arith, lt, c.self.invariant.places) in
    let at = column_at c.self.inside.z.now c.self.inside.columns.items c.args.column c.index.result.now c.self.invariant.transposed there c.index.ensures in
    let was : slice_get c.self.inside.fixed.at.items c.args.column ≡ Some c.index-old.result.now = slice_get_read c.self.inside.fixed.at.items (length c.self.inside.fixed.at.items) c.args.column c.index-old.result.now refl lt c.index-old.ensures in
    let many : length c.move_sums.new.sums ≡ length c.self.inside.reaches.items = c.move_sums.auto.sums ∙ ap length c.deref_mut.ensures.value in
    let many2 : length c.move_sums-2.new.sums ≡ length c.self.inside.ones.items = c.move_sums-2.auto.sums ∙ ap length c.deref_mut-2.ensures.value in
    let whole : take c.self.inside.reaches.len (c.move_sums.new.sums ++ drop (length c.move_sums.new.sums) c.self.inside.reaches.items) ≡ c.move_sums.new.sums = whole_back c.self.inside.reaches.len c.move_sums.new.sums c.self.inside.reaches.items many (search rules) in
    let whole2 : take c.self.inside.ones.len (c.move_sums-2.new.sums ++ drop (length c.move_sums-2.new.sums) c.self.inside.ones.items) ≡ c.move_sums-2.new.sums = whole_back c.self.inside.ones.len c.move_sums-2.new.sums c.self.inside.ones.items many2 (search rules) in
    let gain = gains c.self.inside.reaches.items c.deref_mut.result.now c.move_sums.new.sums c.index.result.now.items c.deref.result.now (moved c.index-old.result.now c.args.new) c.deref_mut.ensures.value c.deref.ensures.value c.move_sums.ensures in
    let gain2 = gains c.self.inside.ones.items c.deref_mut-2.result.now c.move_sums-2.new.sums c.index-2.result.now.items c.deref-2.result.now (moved c.settled.result c.settled-2.result) c.deref_mut-2.ensures.value c.deref-2.ensures.value c.move_sums-2.ensures in
    let at2 = column_at c.self.inside.z.now c.self.inside.columns.items c.args.column c.index-2.result.now c.self.invariant.transposed there c.index-2.ensures in
    let kept = placed c.self.inside.z.now c.self.inside.columns.items c.self.inside.fixed.at.items c.self.inside.reaches.items c.self.inside.ones.items c.move_sums.new.sums c.move_sums-2.new.sums c.args.column c.index-old.result.now c.args.new c.settled.result c.settled-2.result c.index.result.now c.index-2.result.now c.settled.ensures c.settled-2.ensures c.self.invariant there was at.0 at2.0 many many2 gain gain2 in
    subst (λ (l : List ℤ). KeepsSums c.self.inside.z.now c.self.inside.columns.items (set c.self.inside.fixed.at.items c.args.column c.args.new) l (take c.self.inside.ones.len (c.move_sums-2.new.sums ++ drop (length c.move_sums-2.new.sums) c.self.inside.ones.items))) (sym whole)
    (subst (λ (l : List ℤ). KeepsSums c.self.inside.z.now c.self.inside.columns.items (set c.self.inside.fixed.at.items c.args.column c.args.new) c.move_sums.new.sums l) (sym whole2) kept)
