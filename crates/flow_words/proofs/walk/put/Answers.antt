use Rattle.std.proofs.Common.{refl, ap, ◌∙◌}
use Rattle.flow_words.specs.Definitions.{of_prim}
use Rattle.flow_words.specs.Tables.{look, with_known}
use Rattle.flow_words.proofs.Going.{put_sound}
use Rattle.flow_words.proofs.walk.put.Goals as goal

pub returns : goal.returns
returns c =
    let T = look c.args.state.now.table.items in
    record {
      base = refl;
      fresh = refl;
      before = c.in_ok-save.ensures.saved;
      table = c.in_ok-save.ensures.table ∙ ap (with_known T c.args.x) (c.of_prim-k.ensures ∙ ap (λ l. of_prim (look l) c.args.q) c.deref-2.ensures.value);
      steps = c.in_ok-push_step.ensures;
      sound = put_sound T c.args.x c.args.q c.deref.result.now c.args.state.now.table.items c.args.state.now.sound c.may_define.result c.both-state.result c.deref.ensures.value c.may_define.ensures c.both-state.ensures;
    }
