use Rattle.std.proofs.Common.{All, sym, subst, ◌∙◌}
use Rattle.nova_texts.specs.Formatted.{IsFormattedFile}
use Rattle.nova_texts.proofs.format.format_sources.Goals as goal

pub loop-name-preserved : goal.loop-name-preserved
loop-name-preserved g c = record {
  held = c.format_file.ensures.held ∙ c.loop-name.invariant.held;
  none = λ e. c.format_file.ensures.none e ∙ c.loop-name.invariant.none e;
  formatted = λ t.
      subst (λ h. All (IsFormattedFile h) c.format_file.new.savings.items) c.loop-name.invariant.held
      (c.format_file.ensures.formatted t (subst (λ h. All (IsFormattedFile h) c.loop-name.savings.items) (sym c.loop-name.invariant.held) (c.loop-name.invariant.formatted t)));
}
