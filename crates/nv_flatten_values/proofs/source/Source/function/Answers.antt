use Rattle.std.proofs.Common.{◌≡◌, ◌∙◌, ◌+◌, ◌<◌, ap, sym, refl, length, Some, arith}
use Rattle.std.proofs.lemmas.Option.{slice_get_read}
use Rattle.nv_ast.specs.ProgramView.{fun_tree}
use Rattle.nv_meaning_values.proofs.NameIndices.{place-below, function-none, function-found}
use Rattle.nv_flatten_values.specs.inner.WholeView.{whole_in}
use Rattle.nv_flatten_values.proofs.Sources.{group-found}
use Rattle.nv_flatten_values.proofs.source.Source.function.Goals as goal

pub returns-in_err-place : goal.returns-in_err-place
returns-in_err-place c =
    rw c.from_residual.ensures (function-none 0 c.args.x.now c.args.self.now.table.functions.items (sym (c.in_err-place.ensures.value ∙ c.args.self.now.table.functions_found c.args.x.now)))

pub index-requires : goal.index-requires
index-requires c =
    let h = place-below (λ f. f.now.name) c.args.self.now.table.functions.items c.args.x.now c.in_ok-place.field-0.now (sym (c.in_ok-place.ensures.value ∙ c.args.self.now.table.functions_found c.args.x.now)) in
    omega (arith, h, c.args.self.now.table.functions.ok.0)

pub index-requires-2 : goal.index-requires-2
index-requires-2 c =
    let h = place-below (λ f. f.now.name) c.args.self.now.table.functions.items c.args.x.now c.in_ok-place.field-0.now (sym (c.in_ok-place.ensures.value ∙ c.args.self.now.table.functions_found c.args.x.now)) in
    omega (arith, h, c.args.self.now.grouped, c.args.self.now.groups.ok.0)

pub returns : goal.returns
returns c =
    let found = sym (c.in_ok-place.ensures.value ∙ c.args.self.now.table.functions_found c.args.x.now) in
    let s : c.in_ok-place.field-0.now ≡ 0 + c.in_ok-place.field-0.now = omega arith in
    let h : c.in_ok-place.field-0.now < length c.args.self.now.table.functions.items = place-below (λ f. f.now.name) c.args.self.now.table.functions.items c.args.x.now c.in_ok-place.field-0.now found in
    let many : length c.args.self.now.groups.items ≡ length c.args.self.now.table.functions.items = c.args.self.now.grouped in (
      function-found 0 c.in_ok-place.field-0.now c.args.x.now c.args.self.now.table.functions.items c.index.result.now (found ∙ ap (λ j. Some j) s) ∙ ap (λ f. Some (fun_tree f.now)) (sym c.index.ensures),
      group-found (whole_in c.args.self.now) c.args.self.now.table.functions.items c.args.x.now c.in_ok-place.field-0.now c.index-2.result.now refl found
          (slice_get_read c.args.self.now.groups.items (length c.args.self.now.groups.items) c.in_ok-place.field-0.now c.index-2.result.now refl (omega arith) c.index-2.ensures),
    )
