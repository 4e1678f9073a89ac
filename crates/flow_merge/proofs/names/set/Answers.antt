use Rattle.std.proofs.Common.{ap, ◌∙◌}
use Rattle.std.proofs.lemmas.Result.{on_ok_weaker}
use Rattle.flow_ir.specs.Substitution.{look}
use Rattle.flow_merge.proofs.Naming.{saved_one}
use Rattle.flow_merge.proofs.names.set.Goals as goal

pub returns-clause-saved : goal.returns-clause-saved
returns-clause-saved c =
    on_ok_weaker c.name.result (λ h. saved_one _ _ _ _ c.args.x c.name_of-old.result c.args.a (c.name_of-old.ensures ∙ ap (λ l. look l c.args.x) c.deref.ensures.value) c.in_ok-push.ensures.items h) c.name.ensures
