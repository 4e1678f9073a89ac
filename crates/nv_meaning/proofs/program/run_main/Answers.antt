use Rattle.std.proofs.Common.{◌∙◌, ap, sym, Some, []}
use Rattle.std.proofs.lemmas.Result.{err_from_is_err_and}
use Rattle.nv_ast.specs.ProgramView.{fun_tree}
use Rattle.nv_ast.specs.Types.{named_types_of}
use Rattle.nv_ast.specs.TypeView.{list_named_types}
use Rattle.nv_meaning_values.specs.Values.{named_values_from}
use Rattle.nv_meaning_values.specs.Running.{Running, closed}
use Rattle.nv_meaning.specs.Meaning.{eval, run_main as main_run, calls_within, named_scope}
use Rattle.nv_meaning_values.specs.inner.TableView.{declared_in}
use Rattle.nv_meaning_values.specs.inner.View.{scope_of}
use Rattle.nv_meaning.specs.inner.Ran.{at}
use Rattle.nv_meaning.proofs.Whole.{executes-nothing, executes-left, main-executes}
use Rattle.nv_meaning.proofs.program.run_main.Goals as goal

pub returns-in_err-add_arguments : goal.returns-in_err-add_arguments
returns-in_err-add_arguments c =
    let p = err_from_is_err_and c.from_residual.result c.from_residual.ensures.1 in
    rw p.1 (λ k knows. executes-nothing (at c.args.n c.args.p.now c.args.log.now) (closed (main_run (declared_in c.args.t.now) (Some (fun_tree c.args.f.now)) c.args.args.now c.args.n (record { calls = c.args.n; packet = c.args.p.now; writes = []; chain = k }))) _)

pub returns : goal.returns
returns c = λ k knows.
    let d = declared_in c.args.t.now in
    let f = fun_tree c.args.f.now in
    let start : Running = record { calls = c.args.n; packet = c.args.p.now; writes = []; chain = k } in
    let scope =
    c.in_ok-add_arguments.ensures
    ∙ ap (λ l. named_scope (named_values_from (named_types_of d.layouts (list_named_types l)) c.args.args.now) (scope_of c.new-scope.result.items [])) c.deref.ensures.value
    ∙ ap (λ l. named_scope (named_values_from (named_types_of d.layouts f.params) c.args.args.now) (scope_of l [])) c.new-scope.ensures.items in
    executes-left (at c.args.n c.args.p.now c.args.log.now) (at c.settled-answer.new.left c.settled-answer.new.p c.settled-answer.new.log) c.args.n _ c.outcome_of.result
    (main-executes d c.args.n c.args.p.now c.args.log.now (at c.settled-answer.new.left c.settled-answer.new.p c.settled-answer.new.log) f (scope_of c.add_arguments.new.scope.items []) c.settled-answer.result c.outcome_of.result
    c.settled-answer.ensures.ran
    k knows
    (main_run d (Some f) c.args.args.now c.args.n start)
    (ap (λ s. eval d (calls_within c.args.n d) f.body s start) (sym scope))
    c.outcome_of.ensures.done
    c.outcome_of.ensures.before)
