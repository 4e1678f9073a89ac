use Rattle.std.proofs.Common.{◌<◌, ℕ, length, arith}
use Rattle.std.proofs.lemmas.List.{append-nil}
use Rattle.std.proofs.lemmas.List.Elements.{filter_more}
use Rattle.reg_assign_reading.specs.ReadOff.{has_home}
use Rattle.reg_assign_reading.specs.inner.Reading.{says}
use Rattle.reg_assign_numbers.proofs.homes.homes_in.Goals as goal

pub loop-x-preserved : goal.loop-x-preserved
loop-x-preserved c =
    let keep = λ (x : ℕ). has_home (says c.args.r.now) x c.args.h in
    let l : c.loop-x.x-index < length c.args.row.now = omega arith in
    grind (arith, filter_more keep c.args.row.now c.loop-x.x-index 0 l, append-nil)
