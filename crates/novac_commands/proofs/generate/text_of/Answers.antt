use Rattle.std.proofs.Common.{ℕ, ◌∙◌, ap}
use Rattle.nova_back.specs.Causes.{report_cost}
use Rattle.novac_commands.specs.Generating.{generated_text}
use Rattle.novac_commands.proofs.generate.text_of.Goals as goal

pub returns : goal.returns
returns c = (
  c.in_ok-word.word,
  c.in_ok-word.ensures,
  c.in_ok-text.ensures
      ∙ ap (λ (n : ℕ). generated_text c.args.seed c.args.size c.args.bytes n c.args.t.now.built.report.verdict (report_cost c.args.t.now.built.report) c.in_ok-word.word) (cc),
)
