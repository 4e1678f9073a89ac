use Rattle.std.proofs.Common.{◌∙◌}
use Rattle.ucode_emit.proofs.Runs.{free-less}
use Rattle.ucode_emit.proofs.Loops.{running-more}
use Rattle.ucode_emit.proofs.pending.Pending.run.Goals as goal

pub loop-s-preserved : goal.loop-s-preserved
loop-s-preserved c =
    running-more c.args.self.now c.args.start c.loop-s.t c.in-Some.s c.loop-s.self c.take.new.self c.loop-s.invariant c.in-Some.ensures.source c.in-Some.ensures.unread
    c.take.ensures.counted c.take.ensures.sources (c.take.ensures.done ∙ c.in_ok-push.ensures.items)

pub returns-clause-free : goal.returns-clause-free
returns-clause-free c = λ ms h. free-less c.loop-s.self.sources.items c.loop-s.t ms c.in_default.ensures.none (c.loop-s.invariant.free ms h)
