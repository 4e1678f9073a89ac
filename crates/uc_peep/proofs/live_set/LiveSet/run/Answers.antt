use Rattle.std.proofs.Common.{◌+◌, ◌-◌, ◌*◌, ◌%◌, ◌^◌, ◌≤◌, ◌∙◌, ap, sym, subst, arith, lit<}
use Rattle.std.proofs.Math.Nat.{pow-le-pow_right}
use Rattle.uc_peep.specs.Sets.{has}
use Rattle.uc_peep.proofs.Bits.{has-run, one-bit}
use Rattle.uc_peep.proofs.live_set.LiveSet.run.Goals as goal

pub overflow_sub-result : goal.overflow_sub-result
overflow_sub-result c =
    let r = c.args.first in
    let k = c.args.n in
    let fits = c.requires in
    let more : 2 ^ r ≤ 2 ^ (r + k) = pow-le-pow_right (lit< tt) (omega arith) in
    subst (λ x. x ≤ 1 * 2 ^ (r + k) % 2 ^ 128) (sym (one-bit r (omega (arith, fits)))) (subst (λ x. 2 ^ r ≤ x) (sym (one-bit (r + k) (omega (arith, fits)))) more)

pub returns : goal.returns
returns c =
    let r = c.args.first in
    let k = c.args.n in
    let fits = c.requires in
    λ s h. ap (λ x. has (x - 1 * 2 ^ r % 2 ^ 128) s) (one-bit (r + k) (omega (arith, fits))) ∙ ap (λ x. has (2 ^ (r + k) - x) s) (one-bit r (omega (arith, fits))) ∙ has-run r k s
