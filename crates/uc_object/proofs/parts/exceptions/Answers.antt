use Rattle.std.proofs.Common.{◌≡◌, ◌+◌, ◌≤◌, length, take, drop, arith, length-drop, subst, sym}
use Rattle.std.proofs.lemmas.List.{take_rest}
use Rattle.uc_object.specs.Columns.{IsExceptionFault}
use Rattle.uc_object.specs.Object.{IsException}
use Rattle.uc_object.specs.inner.Parts.{Has}
use Rattle.uc_object.proofs.Exceptions.{exception-fault, exception-code, least_exception, least_exception-is, short-name}
use Rattle.uc_object.proofs.Together.{has-none, has-step, fault-behind}
use Rattle.uc_object.proofs.parts.exceptions.Goals as goal

pub loop-init : goal.loop-init
loop-init c = record { inside = c.requires.start; has = rw c.new-list.ensures.items (has-none IsException (drop c.args.start c.args.bytes.now)) }

pub overflow_cast-result : goal.overflow_cast-result
overflow_cast-result c =
    let bytes = c.args.bytes.now in
    let within = subst (λ x. c.in-Err.fault ≤ length x) (take_rest bytes c.loop.end) c.in-Err.ensures.within in
    let inside = c.loop.invariant.inside in
    record { fits = omega (arith, length-drop c.loop.end bytes) }

pub returns-in-Err-clause-bad : goal.returns-in-Err-clause-bad
returns-in-Err-clause-bad c =
    let bytes = c.args.bytes.now in
    let end = c.loop.end in
    let fault = exception-fault (drop end bytes) c.in-Err.fault (subst (λ x. IsExceptionFault x c.in-Err.fault) (take_rest bytes end) c.in-Err.ensures.fault) in
    λ place e. let same : end + c.in-Err.fault ≡ place = cc in
    fault-behind IsException exception-code (0, short-name) least_exception least_exception-is c.args.count c.loop.counter c.in-Err.fault c.args.start end place c.loop.list.items bytes
    c.requires.start c.loop.invariant.inside c.loop-test.true c.loop.invariant.has fault (sym same)

pub loop-preserved : goal.loop-preserved
loop-preserved c =
    let bytes = c.args.bytes.now in
    let end = c.loop.end in
    let size = c.in-Ok.size in
    let one = c.in_ok-exception-in-Ok.field-0 in
    let long = subst (λ x. size ≤ length x) (take_rest bytes end) c.in-Ok.ensures.size in
    let exception = subst (λ x. IsException one (take size x)) (take_rest bytes end) c.in_ok-exception-in-Ok.ensures in
    let inside = c.loop.invariant.inside in
    record {
      inside = omega (arith, length-drop end bytes);
      has = subst (λ is. Has IsException (c.loop.counter + 1) is (drop c.args.start bytes) (drop (end + size) bytes)) (sym c.in_ok-push-in-Ok.ensures.items)
          (has-step IsException c.loop.counter c.args.start end size c.loop.list.items one bytes c.loop.invariant.has exception);
    }

pub returns-clause-each : goal.returns-clause-each
returns-clause-each c =
    let bytes = c.args.bytes.now in
    let ended : c.loop.counter ≡ c.args.count = omega arith in
    subst (λ n. Has IsException n c.loop.list.items (drop c.args.start bytes) (drop c.loop.end bytes)) ended c.loop.invariant.has
