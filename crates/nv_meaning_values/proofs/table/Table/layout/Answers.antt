use Rattle.std.proofs.Common.{◌∙◌, Some, option_map, ap, sym, refl, take, arith}
use Rattle.std.proofs.lemmas.Option.{slice_get-get_or}
use Rattle.nv_ast.specs.Outline.{outline}
use Rattle.nv_meaning_values.specs.inner.TableView.{declared_in}
use Rattle.nv_meaning_values.proofs.NameIndices.{place-below, layout-none, layout-beyond, layout-found}
use Rattle.nv_meaning_values.proofs.table.Table.layout.Goals as goal

pub returns-in_err-place-clause-outline : goal.returns-in_err-place-clause-outline
returns-in_err-place-clause-outline c =
    rw c.from_residual.ensures (layout-none c.args.self.now.layouts.items c.args.x.now c.args.limit (sym (c.in_err-place.ensures.value ∙ c.args.self.now.layouts_found c.args.x.now)))

pub loop-place-init : goal.loop-place-init
loop-place-init c = (c.args.x.now, sym (c.in_ok-place.ensures.value ∙ c.args.self.now.layouts_found c.args.x.now), refl, omega arith)

pub index-requires : goal.index-requires
index-requires c =
    let h = place-below (λ k. k.0.now) c.args.self.now.layouts.items c.loop-place.invariant.0 c.loop-place.place c.loop-place.invariant.1 in
    omega (arith, h, c.args.self.now.layouts.ok.0)

pub returns-in_err-place-in-Some-clause-outline : goal.returns-in_err-place-in-Some-clause-outline
returns-in_err-place-in-Some-clause-outline c =
    let inv = c.loop-place.invariant in
    let items = c.args.self.now.layouts.items in
    let known = (declared_in c.args.self.now).layouts in
    rw c.from_residual-in_err-place-in-Some.ensures
    (inv.2 ∙ layout-found items inv.0 c.loop-place.place c.loop-place.before c.index.result.now inv.1 c.loop-place-test.true c.index.ensures
    ∙ ap (outline (take c.loop-place.place known)) c.in-Some.ensures
    ∙ layout-none items c.in-Some.next.now c.loop-place.place (sym (c.in_err-place-in-Some.ensures.value ∙ c.args.self.now.layouts_found c.in-Some.next.now)))

pub loop-place-preserved : goal.loop-place-preserved
loop-place-preserved c =
    let inv = c.loop-place.invariant in
    let items = c.args.self.now.layouts.items in
    let known = (declared_in c.args.self.now).layouts in (
      c.in-Some.next.now,
      sym (c.in_ok-place-in-Some.ensures.value ∙ c.args.self.now.layouts_found c.in-Some.next.now),
      inv.2 ∙ layout-found items inv.0 c.loop-place.place c.loop-place.before c.index.result.now inv.1 c.loop-place-test.true c.index.ensures ∙ ap (outline (take c.loop-place.place known)) c.in-Some.ensures,
      (let below = inv.3 in omega (arith, below, c.loop-place-test.true)),
    )

pub returns-in-None-clause-outline : goal.returns-in-None-clause-outline
returns-in-None-clause-outline c =
    let inv = c.loop-place.invariant in
    inv.2 ∙ layout-found c.args.self.now.layouts.items inv.0 c.loop-place.place c.loop-place.before c.index.result.now inv.1 c.loop-place-test.true c.index.ensures

pub returns-in-None-clause-unnamed : goal.returns-in-None-clause-unnamed
returns-in-None-clause-unnamed c = c.in-None.ensures

pub returns-in-None-clause-stands : goal.returns-in-None-clause-stands
returns-in-None-clause-stands c =
    let items = c.args.self.now.layouts.items in
    let below = place-below (λ k. k.0.now) items c.loop-place.invariant.0 c.loop-place.place c.loop-place.invariant.1 in
    ap (option_map (λ l. l.1)) (slice_get-get_or items c.loop-place.place c.index.result.now below ∙ ap Some (sym c.index.ensures))

pub returns-in-None-clause-within : goal.returns-in-None-clause-within
returns-in-None-clause-within c = let below = c.loop-place.invariant.3 in omega (arith, below, c.loop-place-test.true)

pub returns-clause-outline : goal.returns-clause-outline
returns-clause-outline c =
    let inv = c.loop-place.invariant in
    inv.2 ∙ layout-beyond c.args.self.now.layouts.items inv.0 c.loop-place.place c.loop-place.before inv.1 c.loop-place-test.false
