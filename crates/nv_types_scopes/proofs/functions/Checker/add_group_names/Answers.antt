use Rattle.std.proofs.Common.{◌≡◌, ◌∙◌, ◌≤◌, ◌+◌, ap, sym, subst, map, drop, length, arith, not, false, Bool, true, refl, is_some}
use Rattle.std.proofs.lemmas.Result.{err_from_is_err_and}
use Rattle.nv_ast.specs.Tests.{names_of, is_among}
use Rattle.nv_ast.specs.Faults.{name_faults}
use Rattle.nv_ast.specs.ProgramView.{fun_tree}
use Rattle.nv_types_scopes.proofs.Alikes.{among_look_up}
use Rattle.nv_types_scopes.proofs.Images.{image_behind, image_none}
use Rattle.nv_types_scopes.proofs.GroupNames.{Seen, among_keys, seen_start, seen_earlier, seen_again, seen_more, not_found, fresh_keys}
use Rattle.nv_types_scopes.proofs.functions.Checker.add_group_names.Goals as goal

turned_back : (b r : Bool) → r ≡ not b → not r ≡ b
turned_back true r e = ap not e
turned_back false r e = ap not e

pub returns-in_err-fault_where : goal.returns-in_err-fault_where
returns-in_err-fault_where c =
    let known = names_of c.args.self.now.functions in
    let all = map fun_tree c.args.fs.now in
    let i = c.loop-f.f-index in
    let f = c.f-item.result in
    let s = subst (λ rest. Seen (names_of c.args.self.now.functions) c.loop-f.names.keys (map fun_tree c.args.fs.now) rest) (image_behind fun_tree c.args.fs.now i f c.loop-f-test.true c.f-item.is) c.loop-f.invariant in
    let found = c.is_some.ensures ∙ ap is_some c.get.ensures ∙ among_look_up (fun_tree f).name c.args.self.now.functions in
    let p = err_from_is_err_and c.from_residual.result c.from_residual.ensures.1 in
    rw (p.1, p.2) (seen_earlier known c.loop-f.names.keys all (map fun_tree (drop (i + 1) c.args.fs.now)) (fun_tree f) c.is_some.result c.in_err-fault_where.field-0.0 s found c.in_err-fault_where.ensures)

pub loop-f-init : goal.loop-f-init
loop-f-init c =
    subst (λ keys. Seen (names_of c.args.self.now.functions) keys (map fun_tree c.args.fs.now) (map fun_tree c.args.fs.now)) (sym c.requires) (seen_start (names_of c.args.self.now.functions) (map fun_tree c.args.fs.now))

pub returns-in_err-fault_where-2 : goal.returns-in_err-fault_where-2
returns-in_err-fault_where-2 c =
    let known = names_of c.args.self.now.functions in
    let all = map fun_tree c.args.fs.now in
    let i = c.loop-f.f-index in
    let f = c.f-item.result in
    let s = subst (λ rest. Seen (names_of c.args.self.now.functions) c.loop-f.names.keys (map fun_tree c.args.fs.now) rest) (image_behind fun_tree c.args.fs.now i f c.loop-f-test.true c.f-item.is) c.loop-f.invariant in
    let found : not c.in_ok-insert.field-0 ≡ among_keys (fun_tree c.f-item.result).name c.loop-f.names.keys = turned_back _ _ c.in_ok-insert.ensures.added in
    let p = err_from_is_err_and c.from_residual-in_err-fault_where-2.result c.from_residual-in_err-fault_where-2.ensures.1 in
    rw (p.1, p.2) (seen_again known c.loop-f.names.keys all (map fun_tree (drop (i + 1) c.args.fs.now)) (fun_tree f) (not c.in_ok-insert.field-0) c.in_err-fault_where-2.field-0.0 s found c.in_err-fault_where-2.ensures)

pub loop-f-preserved : goal.loop-f-preserved
loop-f-preserved c =
    let known = names_of c.args.self.now.functions in
    let all = map fun_tree c.args.fs.now in
    let i = c.loop-f.f-index in
    let f = c.f-item.result in
    let s = subst (λ rest. Seen (names_of c.args.self.now.functions) c.loop-f.names.keys (map fun_tree c.args.fs.now) rest) (image_behind fun_tree c.args.fs.now i f c.loop-f-test.true c.f-item.is) c.loop-f.invariant in
    let earlier : c.is_some.result ≡ is_among (fun_tree c.f-item.result).name (names_of c.args.self.now.functions) = c.is_some.ensures ∙ ap is_some c.get.ensures ∙ among_look_up (fun_tree f).name c.args.self.now.functions in
    let again : not c.in_ok-insert.field-0 ≡ among_keys (fun_tree c.f-item.result).name c.loop-f.names.keys = turned_back _ _ c.in_ok-insert.ensures.added in
    let unknown = sym earlier ∙ not_found (fun_tree f).span c.is_some.result c.in_ok-fault_where.ensures in
    let fresh = sym again ∙ not_found (fun_tree f).span (not c.in_ok-insert.field-0) c.in_ok-fault_where-2.ensures in
    seen_more known c.loop-f.names.keys _ all (map fun_tree (drop (i + 1) c.args.fs.now)) (fun_tree f) _ refl s fresh unknown (fresh_keys _ _ _ _ fresh c.in_ok-insert.ensures.keys)

pub returns : goal.returns
returns c =
    let past : length c.args.fs.now ≤ c.loop-f.f-index = omega arith in
    c.loop-f.invariant.left ∙ ap (name_faults c.loop-f.invariant.seen) (image_none fun_tree c.args.fs.now c.loop-f.f-index past)
