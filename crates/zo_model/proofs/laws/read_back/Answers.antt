use Rattle.std.proofs.Common.{◌∙◌}
use Rattle.zo_model.specs.Contents.{contents}
use Rattle.zo_model.proofs.ExactLemmas.{contents_fit}
use Rattle.zo_model.proofs.laws.read_back.Goals as goal

pub returns : goal.returns
returns c = c.read_program.ensures.given (contents c.args.z.now) (contents_fit c.args.z.now c.requires) (c.deref.ensures.value ∙ c.in_ok-text.ensures)
