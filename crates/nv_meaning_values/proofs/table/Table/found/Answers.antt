use Rattle.std.proofs.Common.{◌≡◌, ◌∙◌, ◌+◌, ap, sym, Some, arith}
use Rattle.nv_ast.specs.ProgramView.{fun_tree}
use Rattle.nv_meaning_values.proofs.NameIndices.{place-below, function-none, function-found}
use Rattle.std.proofs.lemmas.Slice.Eq.{bytes_eq-Decides}
use Rattle.nv_meaning_values.proofs.Grouped.{group-found, function-named}
use Rattle.nv_meaning_values.specs.inner.TableView.{declared_in}
use Rattle.nv_meaning_values.proofs.table.Table.found.Goals as goal

pub returns-in_err-place-clause-function : goal.returns-in_err-place-clause-function
returns-in_err-place-clause-function c =
    rw c.from_residual.ensures (function-none 0 c.args.x.now c.args.self.now.functions.items (sym (c.in_err-place.ensures.value ∙ c.args.self.now.functions_found c.args.x.now)))

pub index-requires : goal.index-requires
index-requires c =
    let h = place-below (λ f. f.now.name) c.args.self.now.functions.items c.args.x.now c.in_ok-place.field-0.now (sym (c.in_ok-place.ensures.value ∙ c.args.self.now.functions_found c.args.x.now)) in
    omega (arith, h, c.args.self.now.functions.ok.0)

pub returns-clause-function : goal.returns-clause-function
returns-clause-function c =
    let s : c.in_ok-place.field-0.now ≡ 0 + c.in_ok-place.field-0.now = omega arith in
    function-found 0 c.in_ok-place.field-0.now c.args.x.now c.args.self.now.functions.items c.index.result.now (sym (c.in_ok-place.ensures.value ∙ c.args.self.now.functions_found c.args.x.now) ∙ ap (λ j. Some j) s)
    ∙ ap (λ f. Some (fun_tree f.now)) (sym c.index.ensures)

pub returns-clause-place : goal.returns-clause-place
returns-clause-place c = λ groups.
    let s : c.in_ok-place.field-0.now ≡ 0 + c.in_ok-place.field-0.now = omega arith in
    group-found 0 c.in_ok-place.field-0.now c.args.x.now c.args.self.now.functions.items groups (sym (c.in_ok-place.ensures.value ∙ c.args.self.now.functions_found c.args.x.now) ∙ ap (λ j. Some j) s)

pub returns-clause-name : goal.returns-clause-name
returns-clause-name c =
    let s : c.in_ok-place.field-0.now ≡ 0 + c.in_ok-place.field-0.now = omega arith in
    sym ((bytes_eq-Decides c.args.x.now c.index.result.now.now.name).0 (function-named (declared_in c.args.self.now).functions c.args.x.now (fun_tree c.index.result.now.now)
    (function-found 0 c.in_ok-place.field-0.now c.args.x.now c.args.self.now.functions.items c.index.result.now (sym (c.in_ok-place.ensures.value ∙ c.args.self.now.functions_found c.args.x.now) ∙ ap (λ j. Some j) s)
    ∙ ap (λ f. Some (fun_tree f.now)) (sym c.index.ensures))))
