use Rattle.nova_middle.proofs.Single.{tidy_labels}
use Rattle.nova_middle.proofs.last.made.Goals as goal

pub make-requires : goal.make-requires
make-requires c = tidy_labels _ c.requires.tidy
