use Rattle.std.proofs.Common.{◌∙◌, ◌==◌, ap, sym, not, length}
use Rattle.std.proofs.lemmas.List.{length-map}
use Rattle.ssu_ir.specs.View.{labels_view}
use Rattle.place_plan.specs.Uses.{uses}
use Rattle.place_plan.specs.inner.UseViews.{use_view}
use Rattle.bank_prog_form.proofs.FormLemmas.{used-of}
use Rattle.bank_prog_form.proofs.form.Form.is_used.Goals as goal

pub returns : goal.returns
returns c =
    ap not (c.is_empty.ensures ∙ ap (λ n. n == 0) (sym (length-map c.uses_of.result.now use_view) ∙ ap length c.uses_of.ensures))
    ∙ used-of (uses (labels_view c.args.self.now.ssu.now)) c.args.x
