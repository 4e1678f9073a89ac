use Rattle.std.proofs.Common.{◌≡◌, ◌+◌, ◌∙◌, arith}
use Rattle.nv_flatten_values.proofs.Lists.{number-item, variable-item}
use Rattle.nv_flatten_values.proofs.parts.new_variables.Goals as goal

pub loop-preserved : goal.loop-preserved
loop-preserved c =
    let at : c.in_ok-x.x ≡ c.args.next.now + c.loop.counter = c.in_ok-x.ensures.number ∙ c.loop.invariant.next in
    record {
      numbered = number-item c.args.next.now c.loop.counter c.in_ok-x.x c.loop.vars.items c.push.new.self.items c.loop.invariant.numbered at c.in_ok-push.ensures.ok;
      words = variable-item c.args.next.now c.loop.counter c.in_ok-x.x c.args.words.now.items c.loop.words.items c.push-in-loop.new.self.items c.loop.invariant.words at c.in_ok-push-2.ensures.items;
      next = omega arith;
    }
