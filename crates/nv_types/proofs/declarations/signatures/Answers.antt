use Rattle.std.proofs.Common.{◌∙◌, ◌≤◌, ◌+◌, [], sym, subst, map, take, drop, length, arith, refl, List}
use Rattle.std.proofs.lemmas.Result.{err_from_is_err_and}
use Rattle.nv_ast.specs.Tree.{FunTree}
use Rattle.nv_ast.specs.ProgramView.{fun_tree}
use Rattle.nv_types_scopes.proofs.Images.{image_before, image_behind, image_all, image_none}
use Rattle.nv_types_scopes.proofs.Groups.{SignedSo, signed_start}
use Rattle.nv_types_scopes.proofs.DeclWalk.{signs_err, signs_more, signs_end}
use Rattle.nv_types.proofs.declarations.signatures.Goals as goal

pub loop-f-init : goal.loop-f-init
loop-f-init c = record { so = signed_start c.args.checker.now (map fun_tree c.args.fs.now); same_costs = refl; same_scope = refl }

pub returns-in_err-signature : goal.returns-in_err-signature
returns-in_err-signature c =
    let i = c.loop-f.f-index in
    let fs = c.args.fs.now in
    let f = c.f-item.result in
    let so = subst (λ (rest : List FunTree). SignedSo c.args.checker.now c.loop-f.checker (map fun_tree fs) (map fun_tree (take i fs)) rest) (image_behind fun_tree fs i f c.loop-f-test.true c.f-item.is) c.loop-f.invariant.so in
    let p = err_from_is_err_and c.from_residual.result c.from_residual.ensures.1 in
    rw (p.1, p.2) (signs_err c.args.checker.now c.loop-f.checker c.signature.new.checker (map fun_tree fs) (map fun_tree (take i fs)) (map fun_tree (drop (i + 1) fs)) (fun_tree f) c.in_err-signature.field-0.0 so c.in_err-signature.ensures)

pub loop-f-preserved : goal.loop-f-preserved
loop-f-preserved c =
    let i = c.loop-f.f-index in
    let fs = c.args.fs.now in
    let f = c.f-item.result in
    let last = c.loop-f.invariant in
    let so = subst (λ (rest : List FunTree). SignedSo c.args.checker.now c.loop-f.checker (map fun_tree fs) (map fun_tree (take i fs)) rest) (image_behind fun_tree fs i f c.loop-f-test.true c.f-item.is) last.so in
    record {
      so = subst (λ (done : List FunTree). SignedSo c.args.checker.now c.signature.new.checker (map fun_tree fs) done (map fun_tree (drop (i + 1) fs))) (sym (image_before fun_tree fs i f c.loop-f-test.true c.f-item.is))
          (signs_more c.args.checker.now c.loop-f.checker c.signature.new.checker (map fun_tree fs) (map fun_tree (take i fs)) (map fun_tree (drop (i + 1) fs)) (fun_tree f) _ so last.same_costs c.in_ok-signature.ensures);
      same_costs = c.in_ok-signature.ensures.same_costs ∙ last.same_costs;
      same_scope = c.in_ok-signature.ensures.same_scope ∙ last.same_scope;
    }

pub returns : goal.returns
returns c =
    let i = c.loop-f.f-index in
    let fs = c.args.fs.now in
    let last = c.loop-f.invariant in
    let past : length c.args.fs.now ≤ c.loop-f.f-index = omega arith in
    signs_end c.args.checker.now c.loop-f.checker (map fun_tree fs) tt
    (subst (λ (done : List FunTree). SignedSo c.args.checker.now c.loop-f.checker (map fun_tree fs) done []) (image_all fun_tree fs i past)
    (subst (λ (rest : List FunTree). SignedSo c.args.checker.now c.loop-f.checker (map fun_tree fs) (map fun_tree (take i fs)) rest) (image_none fun_tree fs i past) last.so))
    last.same_costs last.same_scope
