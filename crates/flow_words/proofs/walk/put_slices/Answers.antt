use Rattle.std.proofs.Common.{◌&&◌, ap, ◌∙◌}
use Rattle.std.proofs.lemmas.Result.{on_ok_weaker}
use Rattle.flow_words.specs.inner.Placed.{place}
use Rattle.flow_words.proofs.Going.{let_sliced}
use Rattle.flow_words.proofs.walk.put_slices.Goals as goal

pub returns : goal.returns
returns c =
    let v = place c.args.state.now c.args.saved.now.items c.args.steps.now.items in
    on_ok_weaker c.put_chosen.result
    (λ h. let_sliced v c.both-state.result c.args.x c.args.p (c.both-state.ensures ∙ ap (λ b. c.args.state.now.sound && b) c.is_old_prim.ensures) c.in_ok-put_extras.ensures h) c.put_chosen.ensures
