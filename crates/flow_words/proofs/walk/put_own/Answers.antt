use Rattle.std.proofs.Common.{◌&&◌, ap, ◌∙◌}
use Rattle.std.proofs.lemmas.Result.{on_ok_weaker}
use Rattle.flow_words.specs.inner.Placed.{place}
use Rattle.flow_words.proofs.Going.{own_put}
use Rattle.flow_words.proofs.walk.put_own.Goals as goal

pub returns : goal.returns
returns c =
    on_ok_weaker c.put.result
    (λ h. own_put (place c.args.state.now c.args.saved.now.items c.args.steps.now.items) c.both-state.result c.args.x c.args.q (c.both-state.ensures ∙ ap (λ b. c.args.state.now.sound && b) c.is_below.ensures) h) c.put.ensures
