use Rattle.std.proofs.Common.{◌++◌, ◌∷◌, ◌≤◌, ◌+◌, [], sym, subst, map, take, drop, length, arith, refl, List}
use Rattle.std.proofs.lemmas.Result.{err_from_is_err_and}
use Rattle.nv_ast.specs.Tree.{FunTree}
use Rattle.nv_ast.specs.ProgramView.{fun_tree}
use Rattle.nv_types_scopes.proofs.Holding.{Keeps-refl}
use Rattle.nv_types_table.specs.declared.cost.Cost.{Cost}
use Rattle.nv_types_scopes.proofs.Images.{image_before, image_behind, image_all, image_none}
use Rattle.nv_types_scopes.proofs.Groups.{BodiedSo, CountedSo}
use Rattle.nv_types_scopes.proofs.DeclWalk.{bodies_err, bodies_so, bodies_counted, bodies_keeps, bodies_end}
use Rattle.nv_types_scopes.proofs.WalkCosts.{no_cost}
use Rattle.nv_types.proofs.declarations.bodies.Goals as goal

pub loop-f-init : goal.loop-f-init
loop-f-init c = record {
  so = λ k holds scope signed. record { left = refl; signed = signed };
  counted = λ k sizes needs holds scope signed counts. no_cost;
  keeps = λ scope. Keeps-refl c.args.checker.now;
}

pub returns-in_err-body : goal.returns-in_err-body
returns-in_err-body c =
    let i = c.loop-f.f-index in
    let fs = c.args.fs.now in
    let f = c.f-item.result in
    let so = subst (λ (rest : List FunTree). BodiedSo c.args.checker.now (map fun_tree fs) rest) (image_behind fun_tree fs i f c.loop-f-test.true c.f-item.is) c.loop-f.invariant.so in
    let p = err_from_is_err_and c.from_residual.result c.from_residual.ensures.1 in
    rw (p.1, p.2) (bodies_err c.args.checker.now c.loop-f.checker c.body.new.checker (map fun_tree fs) (map fun_tree (drop (i + 1) fs)) (fun_tree f) c.in_err-body.field-0.0 so c.loop-f.invariant.keeps c.in_err-body.ensures)

pub loop-f-preserved : goal.loop-f-preserved
loop-f-preserved c =
    let i = c.loop-f.f-index in
    let fs = c.args.fs.now in
    let f = c.f-item.result in
    let last = c.loop-f.invariant in
    let cost = c.in_ok-body.field-0 in
    let so = subst (λ (rest : List FunTree). BodiedSo c.args.checker.now (map fun_tree fs) rest) (image_behind fun_tree fs i f c.loop-f-test.true c.f-item.is) last.so in
    let rest = map fun_tree (drop (i + 1) fs) in
    record {
      so = bodies_so c.args.checker.now c.loop-f.checker c.body.new.checker (map fun_tree fs) rest (fun_tree f) cost so last.keeps c.in_ok-body.ensures;
      counted = subst (λ (done : List FunTree). CountedSo c.args.checker.now c.beside-whole.result (map fun_tree fs) done) (sym (image_before fun_tree fs i f c.loop-f-test.true c.f-item.is))
          (subst (λ (whole : Cost). CountedSo c.args.checker.now whole (map fun_tree fs) (map fun_tree (take i fs) ++ fun_tree f ∷ [])) (sym c.beside-whole.ensures)
          (bodies_counted c.args.checker.now c.loop-f.checker c.body.new.checker (map fun_tree fs) (map fun_tree (take i fs)) rest (fun_tree f) c.loop-f.whole cost so last.keeps c.in_ok-body.ensures last.counted));
      keeps = bodies_keeps c.args.checker.now c.loop-f.checker c.body.new.checker (fun_tree f) cost last.keeps c.in_ok-body.ensures;
    }

pub returns : goal.returns
returns c =
    let i = c.loop-f.f-index in
    let fs = c.args.fs.now in
    let last = c.loop-f.invariant in
    let past : length c.args.fs.now ≤ c.loop-f.f-index = omega arith in
    bodies_end c.args.checker.now c.loop-f.checker (map fun_tree fs) c.loop-f.whole
    (subst (λ (rest : List FunTree). BodiedSo c.args.checker.now (map fun_tree fs) rest) (image_none fun_tree fs i past) last.so)
    (subst (λ (done : List FunTree). CountedSo c.args.checker.now c.loop-f.whole (map fun_tree fs) done) (image_all fun_tree fs i past) last.counted)
    last.keeps
