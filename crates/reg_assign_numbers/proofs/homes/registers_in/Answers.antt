use Rattle.std.proofs.Common.{ℕ, ◌≤◌, nat_eq, length, filter, subst}
use Rattle.std.specs.Prelude.{All, IfSome}
use Rattle.std.specs.HashMap.{get}
use Rattle.std.proofs.lemmas.Result.{IfOk-weaker}
use Rattle.ssu_ir.specs.Points.{Point, points}
use Rattle.ssu_liveness.specs.LiveRows.{HaveNumbers}
use Rattle.reg_assign_reading.specs.ReadOff.{has_home}
use Rattle.reg_assign_reading.specs.inner.Reading.{says, labels_of}
use Rattle.reg_assign_numbers.proofs.homes.registers_in.Goals as goal

pub returns-in-Some : goal.returns-in-Some
returns-in-Some c = λ _.
    let keep = λ (x : ℕ). has_home (says c.args.r.now) x c.args.h in
    subst (λ o. IfSome o (λ m. All (HaveNumbers keep (get nat_eq m) 15) (points (labels_of c.args.r.now)))) c.in-Some.is c.in_ok-hinted.ensures

pub returns-in-None : goal.returns-in-None
returns-in-None c =
    let keep = λ (x : ℕ). has_home (says c.args.r.now) x c.args.h in
    let ps = points (labels_of c.args.r.now) in
    IfOk-weaker c.least_in.result (λ m. (n : ℕ) → All (λ (q : Point). length (filter keep q.before) ≤ n) ps → All (HaveNumbers keep (get nat_eq m) n) ps)
    (λ m. All (λ (q : Point). length (filter keep q.before) ≤ 15) ps → All (HaveNumbers keep (get nat_eq m) 15) ps) (λ m f. f 15) c.least_in.ensures
