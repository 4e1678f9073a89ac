use Rattle.std.proofs.Common.{◌++◌, Some, sym, ap, ◌∙◌}
use Rattle.cps_ir.specs.Term as cps
use Rattle.cps_lower.specs.inner.Lowered.{call_term, last_call}
use Rattle.cps_lower.proofs.Handing.{view-Call}
use Rattle.cps_lower.proofs.lowering.call.Goals as goal

pub returns-in-Some : goal.returns-in-Some
returns-in-Some c =
    view-Call c.args.f c.in_ok-words.words (Some c.in-Some.l) c.in_ok-handlers.handlers
    ∙ ap (λ w. cps.Call c.args.f w (Some c.in-Some.l) c.in_ok-handlers.handlers.items) c.in_ok-words.ensures
    ∙ ap (λ h. cps.Call c.args.f c.args.bs.now (Some c.in-Some.l) h) (c.in_ok-handlers.ensures ∙ ap (λ l. l ++ c.args.hs.now) c.new.ensures.items)
    ∙ ap (λ k. call_term c.args.earlier c.args.f c.args.bs.now k c.args.hs.now) (sym c.in-Some.is)

pub returns-in-None : goal.returns-in-None
returns-in-None c =
    c.last_call.ensures
    ∙ ap (λ w. last_call c.args.earlier c.args.f w c.in_ok-handlers.handlers.items) c.in_ok-words.ensures
    ∙ ap (λ h. last_call c.args.earlier c.args.f c.args.bs.now h) (c.in_ok-handlers.ensures ∙ ap (λ l. l ++ c.args.hs.now) c.new.ensures.items)
    ∙ ap (λ k. call_term c.args.earlier c.args.f c.args.bs.now k c.args.hs.now) (sym c.in-None.is)
