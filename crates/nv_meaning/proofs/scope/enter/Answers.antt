use Rattle.std.proofs.Common.{◌∙◌, ◌+◌, [], drop, arith}
use Rattle.nv_meaning_values.specs.inner.View.{scope_of}
use Rattle.nv_meaning.proofs.Bindings.{entered-step, pushed-name}
use Rattle.nv_meaning.proofs.scope.enter.Goals as goal
use Rattle.nv_ast.proofs.Items.{next_item}

pub loop-param-preserved : goal.loop-param-preserved
loop-param-preserved c =
    entered-step (drop c.loop-param.param-index c.args.params.now) (drop (c.loop-param.param-index + 1) c.args.params.now) c.param-item.result c.loop-param.values.rest.items c.next.new.self.rest.items c.in-Some.v (scope_of c.loop-param.scope.items []) (scope_of c.push.new.self.items [])
    (next_item c.args.params.now c.loop-param.param-index c.param-item.result (omega arith) c.param-item.is) c.in-Some.ensures.cases.0
    (pushed-name c.loop-param.scope.items c.push.new.self.items _ c.in-Some.v c.in_ok-push-in-Some.ensures.items) ∙ c.loop-param.invariant
