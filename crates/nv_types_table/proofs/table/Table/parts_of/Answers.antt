use Rattle.std.proofs.Common.{◌-◌, get_or, drop, arith}
use Rattle.nv_types_table.proofs.Growing.{Extends-trans}
use Rattle.nv_types_table.proofs.Making.{parts_step, drop_front}
use Rattle.nv_types_table.proofs.table.Table.parts_of.Goals as goal

pub loop-left-preserved : goal.loop-left-preserved
loop-left-preserved c =
    let i = c.loop-left.left in
    let xs = c.args.types.now in
    record {
      within = omega (arith, c.loop-left.invariant.within);
      grows = Extends-trans c.args.self.now c.loop-left.self c.part.new.self c.loop-left.invariant.grows c.in_ok-list.ensures.grows;
      made = parts_step c.args.self.now c.loop-left.self c.part.new.self (drop i xs) _ (get_or xs (i - 1) 0) c.loop-left.list c.in_ok-list.list
          (drop_front xs i 0 (omega (arith, c.loop-left-test.true)) c.loop-left.invariant.within) c.loop-left.invariant.grows c.loop-left.invariant.made c.in_ok-list.ensures.made;
    }
