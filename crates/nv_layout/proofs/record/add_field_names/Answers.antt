use Rattle.std.proofs.Common.{◌≡◌, ◌∙◌, ◌∷◌, ◌++◌, [], ◌<◌, length, ap, arith}
use Rattle.nv_ast.proofs.Items.{added_step}
use Rattle.nv_layout.proofs.Lists.{field_names_more}
use Rattle.nv_layout.proofs.record.add_field_names.Goals as goal

pub loop-f-preserved : goal.loop-f-preserved
loop-f-preserved c =
    let h : c.loop-f.f-index < length c.args.fs.now = omega arith in
    let cloned : c.in_ok-clone.field-0 ≡ c.f-item.result.0 = c.in_ok-clone.ensures.cases in
    added_step _ _ _ _ _ _ (c.in_ok-push.ensures.items ∙ ap (λ x. c.loop-f.names.items ++ x ∷ []) cloned) c.loop-f.invariant (field_names_more c.args.fs.now c.loop-f.f-index c.f-item.result h c.f-item.is)
