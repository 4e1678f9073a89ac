use Rattle.std.proofs.Common.{◌∙◌, ap, option_map}
use Rattle.nv_flatten_values.specs.inner.View.{view}
use Rattle.nv_flatten.proofs.EndArms.{view-or}
use Rattle.nv_flatten.proofs.FlatViews.{end-as}
use Rattle.nv_flatten.proofs.FlatEnds.{choose-flat}
use Rattle.nv_flatten.proofs.made_code.chosen_code.Goals as goal

pub returns : goal.returns
returns c =
    λ w old names between more low mid after high scope s e a b extends more_extends later more_later test first second.
    end-as _ _ _ _ _ _ _ _ _ _ (ap (λ o. option_map view o) c.or-form.ensures ∙ view-or c.args.first.form c.args.second.form)
    (choose-flat _ _ _ _ _ _ _ _ _ _ s _ _ _ _ _ _ _ c.args.first.code c.args.second.code _ _ _ extends more_extends later more_later (record { chooses = c.in_Ok-found.ensures.chooses; nodes = c.in_Ok-found.ensures.nodes }) test first second)
