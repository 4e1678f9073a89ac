use Rattle.std.proofs.Common.{◌≤◌, ◌+◌, [], sym, subst, map, take, drop, length, arith, List}
use Rattle.std.proofs.lemmas.Result.{err_from_is_err_and}
use Rattle.nv_ast.specs.Tree.{DeclTree}
use Rattle.nv_ast.specs.ProgramView.{decl_tree}
use Rattle.nv_types_scopes.proofs.Images.{image_before, image_behind, image_all, image_none}
use Rattle.nv_types.proofs.Measured.{WalkedSo, walked_start, walked_more, walked_fault, walked_end}
use Rattle.nv_types.proofs.declarations.declarations.Goals as goal

pub loop-d-init : goal.loop-d-init
loop-d-init c = walked_start c.args.checker.now (map decl_tree c.args.ds.now)

pub returns-in_err-declaration : goal.returns-in_err-declaration
returns-in_err-declaration c =
    let i = c.loop-d.d-index in
    let ds = c.args.ds.now in
    let d = c.d-item.result in
    let so = subst (λ (rest : List DeclTree). WalkedSo c.args.checker.now c.loop-d.checker (map decl_tree ds) (map decl_tree (take i ds)) rest) (image_behind decl_tree ds i d c.loop-d-test.true c.d-item.is) c.loop-d.invariant in
    let p = err_from_is_err_and c.from_residual.result c.from_residual.ensures.1 in
    rw (p.1, p.2) (walked_fault c.args.checker.now c.loop-d.checker c.declaration.new.checker (map decl_tree ds) (map decl_tree (take i ds)) (map decl_tree (drop (i + 1) ds)) (decl_tree d) c.in_err-declaration.field-0.0 so c.in_err-declaration.ensures)

pub loop-d-preserved : goal.loop-d-preserved
loop-d-preserved c =
    let i = c.loop-d.d-index in
    let ds = c.args.ds.now in
    let d = c.d-item.result in
    let so = subst (λ (rest : List DeclTree). WalkedSo c.args.checker.now c.loop-d.checker (map decl_tree ds) (map decl_tree (take i ds)) rest) (image_behind decl_tree ds i d c.loop-d-test.true c.d-item.is) c.loop-d.invariant in
    subst (λ (done : List DeclTree). WalkedSo c.args.checker.now c.declaration.new.checker (map decl_tree ds) done (map decl_tree (drop (i + 1) ds))) (sym (image_before decl_tree ds i d c.loop-d-test.true c.d-item.is))
    (walked_more c.args.checker.now c.loop-d.checker c.declaration.new.checker (map decl_tree ds) (map decl_tree (take i ds)) (map decl_tree (drop (i + 1) ds)) (decl_tree d) _ so c.in_ok-declaration.ensures)

pub returns : goal.returns
returns c =
    let i = c.loop-d.d-index in
    let ds = c.args.ds.now in
    let past : length c.args.ds.now ≤ c.loop-d.d-index = omega arith in
    walked_end c.args.checker.now c.loop-d.checker (map decl_tree ds) tt
    (subst (λ (done : List DeclTree). WalkedSo c.args.checker.now c.loop-d.checker (map decl_tree ds) done []) (image_all decl_tree ds i past)
    (subst (λ (rest : List DeclTree). WalkedSo c.args.checker.now c.loop-d.checker (map decl_tree ds) (map decl_tree (take i ds)) rest) (image_none decl_tree ds i past) c.loop-d.invariant))
