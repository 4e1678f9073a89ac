use Rattle.std.proofs.Common.{length, refl, sym, ap, ◌∙◌}
use Rattle.std.specs.Prelude.{slice_get}
use Rattle.std.proofs.lemmas.Bool.{ltb-false}
use Rattle.std.proofs.lemmas.Option.{slice_get_read, slice_get_past}
use Rattle.ssu_ir.specs.Slots.{bare_all}
use Rattle.ssu_ir.specs.View.{placed_of}
use Rattle.place_plan.specs.Fits.{param_at}
use Rattle.place_plan.proofs.PartSteps.{param-some, param-none}
use Rattle.place_plan.proofs.parts_serves.parameter.Goals as goal

pub returns-in-Some : goal.returns-in-Some
returns-in-Some c =
    let s = c.args.s.now in
    let ls = c.deref.result.now in
    let there = slice_get_read ls (length ls) c.args.l c.in-Some.label.now refl c.in-Some.ensures.lookup.3.0 c.in-Some.ensures.lookup.1 in
    param-some s.labels.items (bare_all (placed_of s)) c.args.l c.args.i c.param_at.result c.in-Some.label.now (ap (λ xs. slice_get xs c.args.l) (sym c.deref.ensures.value) ∙ there)
    (c.param_at.ensures ∙ ap (λ xs. param_at (slice_get xs c.args.i)) c.deref-in-Some.ensures.value)

pub returns-in-None : goal.returns-in-None
returns-in-None c =
    let s = c.args.s.now in
    let ls = c.deref.result.now in
    param-none s.labels.items (bare_all (placed_of s)) c.args.l c.args.i
    (ap (λ xs. slice_get xs c.args.l) (sym c.deref.ensures.value) ∙ slice_get_past ls c.args.l (ltb-false c.args.l (length ls) (sym c.in-None.ensures.lookup.0)))
