use Rattle.std.proofs.Common.{◌≡◌, ◌+◌, ◌≤◌, length, take, drop, arith, length-drop, subst, sym, refl}
use Rattle.std.specs.Int.{to_le_bytes, w32}
use Rattle.std.proofs.lemmas.List.{take_rest}
use Rattle.uc_object.specs.Object.{IsNumber}
use Rattle.uc_object.specs.inner.Parts.{Has, Spells, IsFaultOf}
use Rattle.uc_object.proofs.Numbers.{number-code}
use Rattle.uc_object.proofs.Together.{has-none, has-step, fault-behind}
use Rattle.uc_object.proofs.parts.starts.Goals as goal

pub loop-init : goal.loop-init
loop-init c = record { inside = c.requires.start; has = rw c.new-list.ensures.items (has-none (IsNumber c.args.places) (drop c.args.start c.args.bytes.now)) }

pub overflow_cast-result : goal.overflow_cast-result
overflow_cast-result c =
    let bytes = c.args.bytes.now in
    let within = subst (λ x. c.in-Err.fault ≤ length x) (take_rest bytes c.loop.end) c.in-Err.ensures.within in
    let inside = c.loop.invariant.inside in
    record { fits = omega (arith, length-drop c.loop.end bytes) }

pub returns-in-Err-clause-bad : goal.returns-in-Err-clause-bad
returns-in-Err-clause-bad c =
    let bytes = c.args.bytes.now in
    let end = c.loop.end in
    let n = c.args.places in
    let some = c.requires.some in
    let fault = subst (λ m. IsFaultOf (Spells (IsNumber m)) (drop end bytes) c.in-Err.fault) c.from.ensures
    (subst (λ x. IsFaultOf (Spells (IsNumber c.from.result)) x c.in-Err.fault) (take_rest bytes end) c.in-Err.ensures.fault) in
    λ place e. let same : end + c.in-Err.fault ≡ place = cc in
    fault-behind (IsNumber n) (number-code n (omega arith)) 0 (to_le_bytes w32 0) (omega arith, refl) c.args.count c.loop.counter c.in-Err.fault c.args.start end place c.loop.list.items bytes
    c.requires.start c.loop.invariant.inside c.loop-test.true c.loop.invariant.has fault (sym same)

pub loop-preserved : goal.loop-preserved
loop-preserved c =
    let bytes = c.args.bytes.now in
    let end = c.loop.end in
    let n = c.args.places in
    let long = subst (λ x. 4 ≤ length x) (take_rest bytes end) c.in-Ok.ensures.length in
    let number = subst (λ m. IsNumber m c.in-Ok.place (take 4 (drop end bytes))) c.from.ensures
    (subst (λ x. IsNumber c.from.result c.in-Ok.place (take 4 x)) (take_rest bytes end) c.in-Ok.ensures.number) in
    let inside = c.loop.invariant.inside in
    record {
      inside = omega (arith, length-drop end bytes);
      has = subst (λ is. Has (IsNumber n) (c.loop.counter + 1) is (drop c.args.start bytes) (drop (end + 4) bytes)) (sym c.in_ok-push-in-Ok.ensures.items)
          (has-step (IsNumber n) c.loop.counter c.args.start end 4 c.loop.list.items c.in-Ok.place bytes c.loop.invariant.has number);
    }

pub returns-clause-each : goal.returns-clause-each
returns-clause-each c =
    let bytes = c.args.bytes.now in
    let ended : c.loop.counter ≡ c.args.count = omega arith in
    subst (λ n. Has (IsNumber c.args.places) n c.loop.list.items (drop c.args.start bytes) (drop c.loop.end bytes)) ended c.loop.invariant.has
