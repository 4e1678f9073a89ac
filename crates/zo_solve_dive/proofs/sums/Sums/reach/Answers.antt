use Rattle.std.proofs.Common.{◌≡◌, ◌<◌, ◌^◌, length, slice_get, ℤ, pos, to_z, of_z, sym, ◌∙◌, subst, arith}
use Rattle.std.specs.Int.{w64, w128}
use Rattle.std.specs.Prelude.{IfSome}
use Rattle.std.proofs.lemmas.Int.{ints}
use Rattle.std.proofs.lemmas.List.{get_or_read}
use Rattle.zo_model.specs.Program.{AtMost}
use Rattle.zo_cert_tree.specs.Certificate.{terms_of}
use Rattle.zo_cert_tree.specs.Searched.{reach}
use Rattle.zo_solve_dive.specs.Sums.{SumsOf}
use Rattle.zo_solve_dive.proofs.Placed.{of_terms, reach_small}
use Rattle.zo_solve_dive.proofs.sums.Sums.reach.Goals as goal

pub overflow_cast-result : goal.overflow_cast-result
overflow_cast-result c =
    let there : c.args.row < length c.self.inside.z.now.rows.items = subst (λ (s : SumsOf). c.args.row < length s.program.rows.items) (sym c.self.view_is) c.requires in
    let value : c.index.result.now ≡ reach c.self.inside.fixed.at.items (terms_of (slice_get c.self.inside.z.now.rows.items c.args.row)) = get_or_read c.self.inside.reaches.items _ _ (omega (arith, there, c.self.invariant.reach_a_row)) c.index.ensures (pos 0) ∙ c.self.invariant.reaches_are c.args.row there in
    let small : AtMost (2 ^ 42) c.index.result.now = reach_small c.self.inside.z.now c.self.inside.fixed.at.items c.args.row c.index.result.now c.self.invariant.valid value in
    omega (arith, ints, small.low, small.high)

pub returns : goal.returns
returns c =
    let there : c.args.row < length c.self.inside.z.now.rows.items = subst (λ (s : SumsOf). c.args.row < length s.program.rows.items) (sym c.self.view_is) c.requires in
    let value : c.index.result.now ≡ reach c.self.inside.fixed.at.items (terms_of (slice_get c.self.inside.z.now.rows.items c.args.row)) = get_or_read c.self.inside.reaches.items _ _ (omega (arith, there, c.self.invariant.reach_a_row)) c.index.ensures (pos 0) ∙ c.self.invariant.reaches_are c.args.row there in
    let small : AtMost (2 ^ 42) c.index.result.now = reach_small c.self.inside.z.now c.self.inside.fixed.at.items c.args.row c.index.result.now c.self.invariant.valid value in
    let x : ℤ = to_z w64 (of_z w64 (to_z w128 (of_z w128 c.index.result.now))) in
    let xe : x ≡ c.index.result.now = omega (arith, ints, small.low, small.high) in
    subst (λ (s : SumsOf). IfSome (slice_get s.program.rows.items c.args.row) (λ r. x ≡ reach s.fixed r.terms.items)) c.self.view_is (of_terms (slice_get c.self.inside.z.now.rows.items c.args.row) (reach c.self.inside.fixed.at.items) x (xe ∙ value))
