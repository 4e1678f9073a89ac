use Rattle.std.proofs.Common.{ap}
use Rattle.ssu_ir.specs.View.{with_bodies}
use Rattle.ssu_ir.proofs.Trees.{formed_from, trees_from}
use Rattle.ssu_ir.proofs.build.SsuBuild.finish.Goals as goal

pub invariant_of-result : goal.invariant_of-result
invariant_of-result c = record { formed = formed_from _ _ _ c.requires.holds c.requires.at_bodies }

pub returns-clause-trees : goal.returns-clause-trees
returns-clause-trees c = λ roots holds e. ap (with_bodies c.args.labels.items) (trees_from _ _ _ holds e)
