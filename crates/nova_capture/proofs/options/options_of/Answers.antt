use Rattle.std.proofs.Common.{rules, ◌≡◌, ◌≢◌, ◌+◌, ◌-◌, ◌<◌, length, None, Some, Err, sym, ap, ◌∙◌, arith}
use Rattle.nova_capture.specs.declared.fault.Fault.TheVariants.{Options}
use Rattle.nova_capture.specs.Blocks.{options_at, option_at, times_with}
use Rattle.nova_capture.proofs.NextOption.{none-next, some-next}
use Rattle.nova_capture.proofs.options.options_of.Goals as goal

pub returns-in-None : goal.returns-in-None
returns-in-None c =
    let left = length c.args.bytes.now - c.loop.counter in
    let is : option_at c.args.order c.loop.rest.now ≡ None = sym c.in-None.ensures.option in
    let some : 0 < left = omega (arith, c.loop-test.true) in
    let long : 0 < length c.loop.rest.now = search rules in
    sym (none-next c.args.order left c.loop.rest.now c.loop.times some long is) ∙ c.loop.invariant.0

pub loop-preserved : goal.loop-preserved
loop-preserved c =
    let left = length c.args.bytes.now - c.loop.counter in
    let is : option_at c.args.order c.loop.rest.now ≡ Some (c.in-Some.code, c.in-Some.value.now, c.in-Some.more.now) = sym c.in-Some.ensures.option in
    let some : 0 < left = omega (arith, c.loop-test.true) in
    let long : 0 < length c.loop.rest.now = search rules in
    let not : c.in-Some.code ≢ 0 = search rules in
    let less : length c.args.bytes.now - (c.loop.counter + 1) ≡ left - 1 = omega (arith, c.loop-test.true) in
    let times = times_with c.args.order c.in-Some.code c.in-Some.value.now c.loop.times in (
      ap (options_at c.args.order (length c.args.bytes.now - (c.loop.counter + 1)) c.in-Some.more.now) c.with_option-times.ensures
          ∙ ap (λ k. options_at c.args.order k c.in-Some.more.now times) less
          ∙ sym (some-next c.args.order left c.loop.rest.now c.loop.times c.in-Some.code c.in-Some.value.now c.in-Some.more.now some long is not)
          ∙ c.loop.invariant.0,
      omega (arith, c.in-Some.ensures.shorter, c.loop.invariant.1),
    )
