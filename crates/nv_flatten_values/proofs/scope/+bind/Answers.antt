use Rattle.std.proofs.Common.{◌≡◌, sym, refl, subst, [], OnOk}
use Rattle.nv_flatten_values.specs.inner.View.{scope_of}
use Rattle.nv_flatten_values.proofs.Bindings.{name-bound, tuple-bound, extends-more}
use Rattle.nv_flatten_values.proofs.scope.+bind.Goals as goal

pub bind-returns-in-Name-clause-bound : goal.bind-returns-in-Name-clause-bound
bind-returns-in-Name-clause-bound t c = name-bound c.args.p.now _ c.in-Name.x c.args.s c.args.scope.now.items c.push.new.self.items c.in-Name.is refl c.in-Ok.ensures.items

pub bind-returns-in-Tuple-s-clause-bound : goal.bind-returns-in-Tuple-s-clause-bound
bind-returns-in-Tuple-s-clause-bound t c =
    subst (λ z. OnOk c.bind_all.result (scope_of c.bind_all.new.scope.items [] ≡ z)) (sym (tuple-bound c.args.p.now c.in-Tuple.ps c.deref.result.now c.args.s c.in-Tuple-s.parts (scope_of c.args.scope.now.items []) c.in-Tuple.is c.deref.ensures.value c.in-Tuple-s.is)) c.bind_all.ensures.bound

pub bind_all-returns-in-Err-clause-extends : goal.bind_all-returns-in-Err-clause-extends
bind_all-returns-in-Err-clause-extends t c = extends-more c.args.scope.now.items c.loop-p.scope.items c.bind.new.scope.items c.loop-p.invariant.extends c.bind.ensures.extends
