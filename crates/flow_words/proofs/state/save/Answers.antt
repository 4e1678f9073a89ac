use Rattle.std.proofs.Common.{ap, ◌∙◌}
use Rattle.std.proofs.lemmas.Result.{on_ok_weaker}
use Rattle.flow_words.specs.Tables.{look}
use Rattle.flow_words.proofs.Going.{saved_one}
use Rattle.flow_words.proofs.state.save.Goals as goal

pub returns-clause-saved : goal.returns-clause-saved
returns-clause-saved c = on_ok_weaker c.set.result (λ h. saved_one _ _ _ _ c.args.x c.known_of-old.result c.args.k (c.known_of-old.ensures ∙ ap (λ l. look l c.args.x) c.deref.ensures.value) c.in_ok-push.ensures.items h) c.set.ensures
