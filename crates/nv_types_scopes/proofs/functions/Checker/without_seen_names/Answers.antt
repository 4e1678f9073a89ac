use Rattle.std.proofs.Common.{◌≡◌, ◌∙◌, ◌+◌, ◌∷◌, ◌≤◌, ap, sym, true, drop, get_or, length, arith}
use Rattle.std.proofs.lemmas.Result.{err_from_is_err_and}
use Rattle.std.proofs.lemmas.List.{drop_more}
use Rattle.nv_ast.specs.Faults.{at_span}
use Rattle.nv_ast.specs.Tests.{where_true, has_twice}
use Rattle.nv_ast.specs.Types.{joined_forms}
use Rattle.nv_types_table.specs.declared.shapes.Shape.{Shape}
use Rattle.nv_types_table.specs.inner.Store.{form_names}
use Rattle.nv_types_scopes.proofs.LayoutWalk.{where_none}
use Rattle.nv_types_scopes.proofs.SharedNames.{shared_start, shared_more, shared_met, shared_fault, shared_end}
use Rattle.nv_types_scopes.proofs.functions.Checker.without_seen_names.Goals as goal

abbrev no_shape : Shape
no_shape = record { bits = 0; fields = 0; height = 0; forms = 0; types = 0 }

pub loop-s-init : goal.loop-s-init
loop-s-init c = shared_start c.args.self.now.table c.args.shapes.now c.args.seen.now.keys c.requires

pub loop-s-preserved : goal.loop-s-preserved
loop-s-preserved c =
    let xs = c.args.shapes.now in
    let i = c.loop-s.s-index in
    let next : drop i xs ≡ get_or xs i no_shape ∷ drop (i + 1) xs = drop_more xs i no_shape c.loop-s-test.true in
    shared_more c.args.self.now.table xs _ _ _ c.loop-s.seen.keys _ next c.loop-s.invariant (λ ys names seen h. c.in_ok-meets_a_name.ensures.seen ys names seen h (where_none c.args.span c.in_ok-meets_a_name.field-0 5 c.in_ok-fault_where.ensures))

pub returns-in_err-fault_where : goal.returns-in_err-fault_where
returns-in_err-fault_where c = λ os h.
    let p = err_from_is_err_and c.from_residual-in_err-fault_where.result c.from_residual-in_err-fault_where.ensures.1 in
    let xs = c.args.shapes.now in
    let i = c.loop-s.s-index in
    let next : drop i xs ≡ get_or xs i no_shape ∷ drop (i + 1) xs = drop_more xs i no_shape c.loop-s-test.true in
    let met : c.in_ok-meets_a_name.field-0 ≡ true → has_twice (form_names (joined_forms os)) ≡ true = λ found. shared_met c.args.self.now.table xs _ _ _ c.loop-s.seen.keys next c.loop-s.invariant (λ ys names seen k. sym found ∙ c.in_ok-meets_a_name.ensures.meets ys names seen k) os h in
    rw (p.1, p.2) (shared_fault c.args.span c.in_ok-meets_a_name.field-0 _ c.in_err-fault_where.field-0.0 met c.in_err-fault_where.ensures)

pub returns : goal.returns
returns c = λ os h.
    let past : length c.args.shapes.now ≤ c.loop-s.s-index = omega (arith, c.loop-s-test.false) in
    ap (λ b. at_span c.args.span (where_true b 5)) (shared_end c.args.self.now.table c.args.shapes.now c.loop-s.s-index c.loop-s.seen.keys past c.loop-s.invariant os h)
