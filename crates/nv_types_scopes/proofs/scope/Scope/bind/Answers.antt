use Rattle.std.proofs.Common.{◌∙◌, ap, sym, subst, rules, List}
use Rattle.nv_types_table.proofs.Found.{was_ok}
use Rattle.nv_ast.specs.Tests.{look_up}
use Rattle.nv_types_scopes.specs.declared.scope.Binding.{Binding}
use Rattle.nv_types_scopes.specs.inner.Stack.{IsScope}
use Rattle.nv_types_scopes.proofs.Stacks.{IsScope-push}
use Rattle.nv_types_scopes.proofs.scope.Scope.bind.Goals as goal

pub invariant_of-self-else-is_err : goal.invariant_of-self-else-is_err
invariant_of-self-else-is_err c =
    let stack = c.self.inside.stack.items in
    let b : Binding = record { name = c.args.name; bound = c.args.t; hidden = c.look_up-hidden.result } in
    let updates = was_ok c.insert.result _ (search rules) c.insert.ensures.updates in
    subst (λ (l : List Binding). IsScope l c.insert.new.self.entries) (sym c.in_ok-push.ensures.items)
    (IsScope-push stack c.self.inside.seen.entries c.insert.new.self.entries b c.self.invariant (c.look_up-hidden.ensures ∙ ap (look_up c.args.name.now) (sym c.self.view_is)) (λ x. updates.0 (record c.args.name { now = x })))
