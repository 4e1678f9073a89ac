use Rattle.std.proofs.Common.{Some, None, sym, ap, ◌∙◌}
use Rattle.cps_lower.specs.inner.Lowered.{last_call}
use Rattle.cps_lower.proofs.Handing.{view-Call}
use Rattle.cps_lower.proofs.lowering.last_call.Goals as goal

pub returns-then-earlier : goal.returns-then-earlier
returns-then-earlier c = view-Call c.args.f c.args.words (Some 0) c.args.handlers ∙ ap (λ b. last_call b c.args.f c.args.words.items c.args.handlers.items) (sym c.if-earlier.true)

pub returns-else-earlier : goal.returns-else-earlier
returns-else-earlier c = view-Call c.args.f c.args.words None c.args.handlers ∙ ap (λ b. last_call b c.args.f c.args.words.items c.args.handlers.items) (sym c.if-earlier.false)
