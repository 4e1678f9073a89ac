use Rattle.std.proofs.Common.{◌∙◌, ◌++◌, ap, subst}
use Rattle.nv_ast.specs.PatternView.{list_patterns}
use Rattle.nv_ast.specs.Scope.{names_in_all}
use Rattle.nv_ast.specs.Faults.{at_span, variable_twice}
use Rattle.nv_types_table.specs.inner.Faulty.{Judges}
use Rattle.nv_types_table.specs.inner.Named.{plain_names}
use Rattle.nv_types_scopes.proofs.functions.Checker.without_repeated.Goals as goal

pub returns : goal.returns
returns c =
    subst (λ names. Judges (at_span c.args.span (variable_twice names)) c.without_twice.result)
    (ap plain_names c.deref.ensures.value ∙ c.in_ok-add_all_names.ensures ∙ ap (λ l. plain_names l ++ names_in_all (list_patterns c.args.ps.now)) c.new-names.ensures.items)
    c.without_twice.ensures
