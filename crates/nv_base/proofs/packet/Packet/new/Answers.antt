use Rattle.std.proofs.Common.{arith}
use Rattle.nv_base.proofs.Blank.{blank-is, blank-fits}
use Rattle.nv_base.proofs.packet.Packet.new.Goals as goal

pub invariant_of-result : goal.invariant_of-result
invariant_of-result c =
    blank-fits _ _ _ c.args.sram c.args.sdram c.in_ok-zeros.ensures c.in_ok-zeros-2.ensures c.in_ok-zeros-3.ensures (omega arith) (omega arith)

pub returns-clause-made : goal.returns-clause-made
returns-clause-made c =
    blank-is _ _ _ c.args.sram c.args.sdram c.in_ok-zeros.ensures c.in_ok-zeros-2.ensures c.in_ok-zeros-3.ensures
