use Rattle.std.proofs.Common.{◌∙◌, ◌∷◌, [], ap, sym, map, get_or, Some}
use Rattle.nv_ast.specs.ProgramView.{decl_tree, fun_tree}
use Rattle.nv_ast.specs.TypedView.{typed_program}
use Rattle.nv_meaning_values.specs.Chains.{trail_of}
use Rattle.nv_meaning_values.specs.Callers.{calls_of}
use Rattle.nv_meaning_values.specs.Running.{closed}
use Rattle.nv_meaning.specs.Meaning.{declared, groups_from, in_main, run_main, traced}
use Rattle.nv_meaning_values.specs.inner.TableView.{declared_in}
use Rattle.nv_meaning.proofs.Whole.{executes-alike, main-alone, start, traced-is}
use Rattle.nv_meaning.proofs.program.run_both.Goals as goal

pub returns-in-Some : goal.returns-in-Some
returns-in-Some c =
    let t = typed_program c.args.t.now in
    let d = declared_in c.in_ok-table.table in
    let same = c.in_ok-table.ensures ∙ ap declared c.program.ensures.same in
    let chain = main-alone t d c.in_ok-main.main c.in-Some.f.now.name c.in_ok-groups.groups.items c.in-Some.place (calls_of c.in_ok-callers-in-Some.callers.items) same c.in_ok-main.ensures c.in-Some.ensures.name
    (c.in_ok-groups.ensures ∙ ap (λ l. groups_from 0 (map decl_tree l)) c.deref.ensures.value ∙ ap (λ p. groups_from 0 p.decls) c.program-2.ensures.same)
    c.in-Some.ensures.place
    (c.in_ok-callers-in-Some.ensures ∙ ap (λ l. (c.in-Some.f.now.name, get_or l c.in-Some.place 0) ∷ []) c.deref-in-Some.ensures.value) in
    executes-alike c.args.n c.args.p.now c.run_main-answer.new.p c.of-notes.result c.run_main-answer.new.log c.args.log.now c.into_parts-kept.result.0 c.args.trace.now c.into_parts-kept.result.1
    (ap (λ x. x.log) c.of-notes.ensures ∙ c.replace-kept.ensures.value)
    (ap (λ x. x.trail) c.of-notes.ensures ∙ ap trail_of c.replace-made.ensures.value)
    (sym c.into_parts-kept.ensures.log)
    (sym c.into_parts-kept.ensures.trace)
    (closed (run_main d (Some (fun_tree c.in-Some.f.now)) c.args.args.now c.args.n (start t c.args.p.now c.args.n)))
    (traced t c.args.args.now c.args.p.now c.args.n)
    c.run_main-answer.result
    (traced-is t d c.in_ok-main.main (Some (fun_tree c.in-Some.f.now)) c.args.args.now c.args.p.now c.args.n same c.in_ok-main.ensures c.in-Some.ensures.function)
    (c.run_main-answer.ensures (in_main (declared t) (groups_from 0 t.decls)) (λ room. ap (λ x. x.chain) c.of-notes.ensures ∙ chain))
