use Rattle.std.proofs.Common.{◌≡◌, ◌∙◌, ap, sym, subst, cond, bytes_eq, None, List}
use Rattle.std.specs.Map.{lookup}
use Rattle.nv_types_scopes.specs.declared.scope.Binding.{Binding}
use Rattle.nv_types_scopes.specs.inner.Stack.{IsScope}
use Rattle.nv_types_scopes.proofs.Stacks.{IsScope-pop, newest_seen}
use Rattle.nv_types_scopes.proofs.scope.Scope.forget.Goals as goal

pub invariant_of-self : goal.invariant_of-self
invariant_of-self c =
    let before = subst (λ (l : List Binding). IsScope l c.self.inside.seen.entries) c.in-Some.ensures.items c.self.invariant in
    IsScope-pop c.pop.new.self.items c.self.inside.seen.entries c.insert.new.self.entries c.in-Some.newest before
    (λ x.
    c.in_ok-insert-in-Some-hidden.ensures.updates.0 (record c.in-Some.newest.name { now = x })
    ∙ ap (λ h. cond (bytes_eq c.in-Some.newest.name.now x) h (lookup (λ k. bytes_eq x k.now) c.self.inside.seen.entries)) (sym c.in-Some-hidden.is))

pub invariant_of-self-in_err-insert-in-Some-hidden : goal.invariant_of-self-in_err-insert-in-Some-hidden
invariant_of-self-in_err-insert-in-Some-hidden c =
    let before = subst (λ (l : List Binding). IsScope l c.self.inside.seen.entries) c.in-Some.ensures.items c.self.invariant in
    let here = newest_seen c.pop.new.self.items c.self.inside.seen.entries c.in-Some.newest before in
    let absent : lookup (λ k. bytes_eq c.in-Some.newest.name.now k.now) c.self.inside.seen.entries ≡ None = c.in_err-insert-in-Some-hidden.ensures.absent in
    absurd (cc (here, absent))

pub invariant_of-self-in-None : goal.invariant_of-self-in-None
invariant_of-self-in-None c =
    let before = subst (λ (l : List Binding). IsScope l c.self.inside.seen.entries) c.in-Some.ensures.items c.self.invariant in
    IsScope-pop c.pop.new.self.items c.self.inside.seen.entries c.swap_remove.new.self.entries c.in-Some.newest before
    (λ x.
    c.swap_remove.ensures.updates.0 (record c.in-Some.newest.name { now = x })
    ∙ ap (λ h. cond (bytes_eq c.in-Some.newest.name.now x) h (lookup (λ k. bytes_eq x k.now) c.self.inside.seen.entries)) (sym c.in-None.is))
