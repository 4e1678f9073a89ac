use Rattle.std.proofs.Common.{refl, sym, ◌∙◌}
use Rattle.ssu_ir.specs.inner.Running.{env_of}
use Rattle.ssu_ir.proofs.Assignments.{each-more, each-done}
use Rattle.ssu_ir.proofs.variables.assign_each.Goals as goal

pub loop-x-preserved : goal.loop-x-preserved
loop-x-preserved c = each-more (env_of c.loop-x.values) (env_of c.assign.new.values) c.args.xs.now c.loop-x.x-index _ c.args.w c.loop-x-test.true refl c.assign.ensures.env ∙ c.loop-x.invariant

pub returns-clause-env : goal.returns-clause-env
returns-clause-env c = sym (each-done (env_of c.loop-x.values) c.args.xs.now c.args.w c.loop-x.x-index c.loop-x-test.false) ∙ c.loop-x.invariant
