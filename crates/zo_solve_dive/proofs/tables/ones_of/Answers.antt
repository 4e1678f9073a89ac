use Rattle.std.proofs.Common.{◌≡◌, ℕ, length, slice_get, sym, ◌∙◌, ap, subst, arith}
use Rattle.std.proofs.lemmas.Int.{ints}
use Rattle.zo_model.specs.Program.{AreSmallTerms, terms_sum}
use Rattle.zo_cert_tree.specs.Certificate.{terms_of}
use Rattle.zo_cert_tree.specs.Fixing.{ones}
use Rattle.zo_solve_dive.proofs.Spread.{pushed_each, pushed_length, row_at}
use Rattle.zo_solve_dive.proofs.tables.ones_of.Goals as goal

pub ones_total-requires : goal.ones_total-requires
ones_total-requires c =
    let row = row_at c.args.z.now c.loop-i.i c.index.result.now c.requires.valid (omega arith) c.index.ensures in
    record { terms = subst (λ ts. AreSmallTerms (length c.args.fixed.now) ts) (sym c.deref.ensures.value) (subst (λ n. AreSmallTerms n c.index.result.now.terms.items) (sym c.requires.places) row.1) }

pub loop-i-preserved : goal.loop-i-preserved
loop-i-preserved c =
    let row = row_at c.args.z.now c.loop-i.i c.index.result.now c.requires.valid (omega arith) c.index.ensures in
    let terms : c.deref.result.now ≡ terms_of (slice_get c.args.z.now.rows.items c.loop-i.i) = c.deref.ensures.value ∙ ap terms_of (sym row.0) in
    let value = c.ones_total.ensures ∙ ap (λ ts. terms_sum ts (ones c.args.fixed.now)) terms in
    let e = c.in_ok-push.ensures.items in
    let f = λ (k : ℕ). terms_sum (terms_of (slice_get c.args.z.now.rows.items k)) (ones c.args.fixed.now) in
    record {
      one_a_row = pushed_length c.loop-i.sums.items c.push.new.self.items c.loop-i.i _ c.loop-i.invariant.one_a_row e;
      each = pushed_each f c.loop-i.sums.items c.push.new.self.items c.loop-i.i _ c.loop-i.invariant.one_a_row e (omega (arith, ints, value)) c.loop-i.invariant.each;
    }
