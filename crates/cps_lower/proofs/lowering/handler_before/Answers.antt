use Rattle.std.proofs.Common.{[], ◌∷◌, ◌++◌, ap, ◌∙◌}
use Rattle.std.proofs.lemmas.Result.{IfOk-weaker}
use Rattle.cps_lower.proofs.lowering.handler_before.Goals as goal

pub returns : goal.returns
returns c =
    IfOk-weaker c.handlers_after.result _ _ (λ v e. e ∙ ap (λ l. l ++ c.args.hs.now) (c.in_ok-push.ensures.items ∙ ap (λ l. l ++ (c.args.e, c.args.label) ∷ []) c.new-v.ensures.items)) c.handlers_after.ensures
