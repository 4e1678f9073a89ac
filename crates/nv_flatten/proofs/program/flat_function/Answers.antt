use Rattle.std.proofs.Common.{◌∙◌, ap, refl}
use Rattle.std.specs.Prelude.{option_map, ◌++◌, []}
use Rattle.nv_ast.specs.ProgramView.{fun_tree}
use Rattle.nv_ast.specs.Types.{named_types_of, total_named_words}
use Rattle.nv_ast.specs.TypeView.{list_named_types}
use Rattle.nv_flatten_values.specs.inner.Symbols.{numbers_from}
use Rattle.nv_flatten_values.specs.inner.View.{view, scope_of}
use Rattle.nv_flatten_values.specs.inner.WholeView.{whole_in}
use Rattle.nv_flatten.proofs.Making.{made-of}
use Rattle.nv_flatten.proofs.Bounding.{narrow-made, small-made}
use Rattle.nv_flatten.proofs.program.flat_function.Goals as goal

pub returns-clause-made : goal.returns-clause-made
returns-clause-made c =
    made-of (whole_in c.args.t.now) (fun_tree c.args.f.now) _ c.args.names.now c.ending.new.names c.entry.new.next c.ending.new.next (scope_of c.in_ok-scope.scope.items []) (option_map view c.in-Ok.found.form) (list_named_types c.deref.result.now)
    (ap list_named_types c.deref.ensures.value)
    c.in_ok-scope.ensures.scope c.in_ok-scope.ensures.next
    (c.in_ok-scope.ensures.made ∙ ap (λ l. l ++ numbers_from 0 (total_named_words (named_types_of (whole_in c.args.t.now).declared.layouts (list_named_types c.deref.result.now)))) c.new-params.ensures.items)
    c.in-Ok.ensures.flat.same c.in-Ok.ensures.flat.well c.in-Ok-words_of.ensures

pub returns-clause-called : goal.returns-clause-called
returns-clause-called c = c.in-Ok.ensures.flat.well.called

pub returns-clause-narrow : goal.returns-clause-narrow
returns-clause-narrow c =
    λ x grouped. narrow-made (whole_in c.args.t.now) c.ending.new.names x c.args.group (fun_tree c.args.f.now) _ (list_named_types c.deref.result.now) (scope_of c.in_ok-scope.scope.items []) (ap list_named_types c.deref.ensures.value)
    c.in_ok-scope.ensures.scope refl grouped (returns-clause-made c) c.in-Ok.ensures.flat.narrow

pub returns-clause-small : goal.returns-clause-small
returns-clause-small c =
    λ x grouped. small-made (whole_in c.args.t.now) c.ending.new.names x c.args.group (fun_tree c.args.f.now) _ (list_named_types c.deref.result.now) (scope_of c.in_ok-scope.scope.items []) (option_map view c.in-Ok.found.form)
    (ap list_named_types c.deref.ensures.value) c.in_ok-scope.ensures.scope refl grouped c.in-Ok.ensures.flat.small
