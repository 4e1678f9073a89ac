use Rattle.std.proofs.Common.{◌&&◌, ap, sym, ◌∙◌}
use Rattle.std.proofs.lemmas.Result.{on_ok_weaker}
use Rattle.flow_words.specs.Sums.{twice}
use Rattle.flow_words.specs.Tables.{look}
use Rattle.flow_words.specs.inner.Placed.{place}
use Rattle.flow_words.proofs.Going.{let_folded, let_kept}
use Rattle.flow_words.proofs.walk.put_sum.Goals as goal

pub returns-in-Some : goal.returns-in-Some
returns-in-Some c =
    let v = place c.args.state.now c.args.saved.now.items c.args.steps.now.items in
    on_ok_weaker c.put_folded.result
    (λ h. let_folded v c.both-state.result c.args.x c.args.p c.in-Some.s (c.both-state.ensures ∙ ap (λ b. c.args.state.now.sound && b) c.is_old_prim.ensures) h
    (sym (ap (λ l. twice (look l) c.args.p) c.deref.ensures.value) ∙ sym c.twice.ensures ∙ c.in-Some.is))
    c.put_folded.ensures

pub returns-in-None : goal.returns-in-None
returns-in-None c =
    let v = place c.args.state.now c.args.saved.now.items c.args.steps.now.items in
    on_ok_weaker c.put_own.result
    (λ h. let_kept v c.both-state.result c.args.x c.args.p (c.both-state.ensures ∙ ap (λ b. c.args.state.now.sound && b) c.is_old_prim.ensures) h
    (sym (ap (λ l. twice (look l) c.args.p) c.deref.ensures.value) ∙ sym c.twice.ensures ∙ c.in-None.is))
    c.put_own.ensures
