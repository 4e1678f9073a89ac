use Rattle.std.proofs.Common.{sym, subst}
use Rattle.nv_base.specs.Memories.{IsAccess}
use Rattle.uc_isa.proofs.Banks.{access-of_run, length-run}
use Rattle.uc_isa.proofs.engine.Engine.write.Goals as goal

pub write-requires : goal.write-requires
write-requires c =
    subst (IsAccess c.args.mem) (sym (length-run c.args.r c.args.n c.write_registers.result.now c.write_registers.ensures.eight c.requires.run.1)) (access-of_run c.args.mem c.args.r c.args.n c.requires.run c.requires.pairs)
