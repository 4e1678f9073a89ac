use Rattle.std.proofs.Common.{◌+◌, [], List, ℕ, nat_eq, take, sym, ap, subst, ◌∙◌, arith}
use Rattle.std.specs.HashMap.{get}
use Rattle.nv_base.specs.Sets.{is_in}
use Rattle.reg_assign_numbers.proofs.Telling.{Told, told-none, told-step, told-stops}
use Rattle.reg_assign_numbers.proofs.apart.row_is_apart.Goals as goal

pub loop-x-init : goal.loop-x-init
loop-x-init c =
    let number = get nat_eq c.args.numbers.now in
    subst (λ (s : List ℕ). Told number c.args.limit [] s) (sym c.new-seen.ensures.items) (told-none number c.args.limit)

pub loop-x-preserved : goal.loop-x-preserved
loop-x-preserved c =
    let number = get nat_eq c.args.numbers.now in
    let row = c.args.row.now in
    let i = c.loop-x.x-index in
    let n = c.in-Some.n in
    let e = c.in-Some.ensures in
    let free = ap (λ (s : List ℕ). is_in n s) (sym c.deref.ensures.value) ∙ e.new in
    subst (λ (s : List ℕ). Told number c.args.limit (take (i + 1) row) s) (sym c.in_ok-push-in-Some.ensures.items)
    (told-step number c.args.limit row c.loop-x.seen.items i n (omega arith) e.has e.below free c.loop-x.invariant)

pub returns-in-None-clause-only : goal.returns-in-None-clause-only
returns-in-None-clause-only c = λ h. absurd (told-stops (get nat_eq c.args.numbers.now) c.args.limit c.args.row.now c.loop-x.seen.items c.loop-x.x-index (omega arith)
    (λ k e l. ap (λ (s : List ℕ). is_in k s) (sym c.deref.ensures.value) ∙ c.in-None.ensures.none k e l) c.loop-x.invariant h)
