use Rattle.std.proofs.Common.{◌≡◌, ◌∙◌, ◌+◌, ap, sym, Some, arith}
use Rattle.nv_ast.specs.ProgramView.{fun_tree}
use Rattle.nv_meaning_values.proofs.NameIndices.{place-below, function-none, function-found}
use Rattle.nv_meaning_values.proofs.table.Table.function.Goals as goal

pub returns-in_err-place : goal.returns-in_err-place
returns-in_err-place c =
    rw c.from_residual.ensures (function-none 0 c.args.x.now c.args.self.now.functions.items (sym (c.in_err-place.ensures.value ∙ c.args.self.now.functions_found c.args.x.now)))

pub index-requires : goal.index-requires
index-requires c =
    let h = place-below (λ f. f.now.name) c.args.self.now.functions.items c.args.x.now c.in_ok-place.field-0.now (sym (c.in_ok-place.ensures.value ∙ c.args.self.now.functions_found c.args.x.now)) in
    omega (arith, h, c.args.self.now.functions.ok.0)

pub returns : goal.returns
returns c =
    let s : c.in_ok-place.field-0.now ≡ 0 + c.in_ok-place.field-0.now = omega arith in
    function-found 0 c.in_ok-place.field-0.now c.args.x.now c.args.self.now.functions.items c.index.result.now (sym (c.in_ok-place.ensures.value ∙ c.args.self.now.functions_found c.args.x.now) ∙ ap (λ j. Some j) s)
    ∙ ap (λ f. Some (fun_tree f.now)) (sym c.index.ensures)
