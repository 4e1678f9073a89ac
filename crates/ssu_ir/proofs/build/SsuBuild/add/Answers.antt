use Rattle.std.proofs.Common.{ap}
use Rattle.ssu_ir.proofs.Trees.{grown}
use Rattle.ssu_ir.proofs.build.SsuBuild.add.Goals as goal

pub returns-in-Ok-clause-grown : goal.returns-in-Ok-clause-grown
returns-in-Ok-clause-grown c =
    grown _ _ _ c.args.n (record {
      was = c.in-Ok.ensures.was_vacant;
      is = c.in-Ok.ensures.updates.changed;
      others = c.in-Ok.ensures.updates.others;
      more = c.in-Ok.ensures.len;
    })

pub returns-in-Err-clause-unchanged : goal.returns-in-Err-clause-unchanged
returns-in-Err-clause-unchanged c = ap (λ s. s.slots) c.in-Err.ensures.err
