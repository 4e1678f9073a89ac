use Rattle.ssu_ir.proofs.Arranged.{arranged}
use Rattle.ssu_ir.proofs.laws.different_roots_can_be_taken.Goals as goal

pub returns : goal.returns
returns c = λ b n roots holds different.
    let a = arranged _ roots _ different holds in
    record { taken = a.taken; rest = a.rest; children = a.are; holds = a.forest }
