use Rattle.std.proofs.Common.{◌≡◌, sym, refl, subst, [], OnOk}
use Rattle.nv_meaning_values.specs.inner.View.{scope_of}
use Rattle.nv_meaning.proofs.Bindings.{name-bound, tuple-bound, extends-more}
use Rattle.nv_meaning.proofs.scope.+bind.Goals as goal

pub bind-returns-in-Name-clause-matches : goal.bind-returns-in-Name-clause-matches
bind-returns-in-Name-clause-matches t c = name-bound c.args.p.now _ c.in-Name.x c.args.v c.args.scope.now.items c.push.new.self.items c.in-Name.is refl c.in_ok-push-in-Name.ensures.items

pub bind-returns-in-Tuple-v-clause-matches : goal.bind-returns-in-Tuple-v-clause-matches
bind-returns-in-Tuple-v-clause-matches t c =
    subst (λ z. OnOk c.bind_all.result (scope_of c.bind_all.new.scope.items [] ≡ z)) (sym (tuple-bound c.args.p.now c.in-Tuple.ps c.deref.result.now c.args.v c.in-Tuple-v.vs (scope_of c.args.scope.now.items []) c.in-Tuple.is c.deref.ensures.value c.in-Tuple-v.is)) c.bind_all.ensures.matches

pub bind_all-returns-in_err-bind-in-Some-clause-extends : goal.bind_all-returns-in_err-bind-in-Some-clause-extends
bind_all-returns-in_err-bind-in-Some-clause-extends t c = extends-more c.args.scope.now.items c.loop-p.scope.items c.bind.new.scope.items c.loop-p.invariant.extends c.bind.ensures.extends
