use Rattle.std.proofs.Common.{◌≡◌, ◌∙◌, ap, sym, subst, bytes_eq}
use Rattle.nv_ast.specs.Tests.{where_true}
use Rattle.nv_ast.specs.Faults.{main_name, at_span}
use Rattle.nv_types_table.specs.inner.Faulty.{Judges}
use Rattle.nv_types_scopes.proofs.Signing.{main_fits, not_main, is_not, is_so}
use Rattle.nv_types_scopes.proofs.functions.Checker.fitting_main.Goals as goal

pub returns-then-ne : goal.returns-then-ne
returns-then-ne c = λ g params result.
    let same : bytes_eq c.bytes.result.now c.as_slice.result.now ≡ bytes_eq c.args.f.now.name main_name = ap (λ x. bytes_eq x c.as_slice.result.now) c.bytes.ensures.same ∙ ap (bytes_eq c.args.f.now.name) c.as_slice.ensures in
    not_main c.args.f.now.span c.args.f.now.name g (sym same ∙ is_not (bytes_eq c.bytes.result.now c.as_slice.result.now) c.ne.result c.ne.ensures c.if-ne.true)

pub returns : goal.returns
returns c = λ g params result.
    let same : bytes_eq c.bytes.result.now c.as_slice.result.now ≡ bytes_eq c.args.f.now.name main_name = ap (λ x. bytes_eq x c.as_slice.result.now) c.bytes.ensures.same ∙ ap (bytes_eq c.args.f.now.name) c.as_slice.ensures in
    main_fits c.args.f.now.span c.args.f.now.name g c.fault_where.result (sym same ∙ is_so (bytes_eq c.bytes.result.now c.as_slice.result.now) c.ne.result c.ne.ensures c.if-ne.false)
    (subst (λ b. Judges (at_span c.args.f.now.span (where_true b 23)) c.fault_where.result) (c.is_wide_main.ensures g params result) c.fault_where.ensures)
