use Rattle.std.proofs.Common.{◌≡◌, ◌<◌, ◌≤◌, ℕ, List, Bool, Some, true, false, nat_eq, get_or, length, count_by, sym, ap, subst, ◌∙◌}
use Rattle.std.specs.HashMap.{get}
use Rattle.nv_base.specs.Sets.{is_in}
use Rattle.ssu_liveness.specs.inner.Numbers.{has_number}
use Rattle.ssu_liveness.proofs.Marks.{free-below, free-of}
use Rattle.ssu_liveness.proofs.slots.next_slot.Goals as goal

pub returns-in-Ok-clause-below : goal.returns-in-Ok-clause-below
returns-in-Ok-clause-below c =
    let number = get nat_eq c.args.slots.now in
    let row = c.args.row.now in
    let same = c.deref.ensures.value in
    let few = subst (λ (m : List Bool). count_by (λ b. b) m ≤ count_by (has_number number) row) (sym same) c.in_ok-marks.ensures.few in
    let below = free-below number row c.deref.result.now c.first_off.result c.args.x (ap length same ∙ c.in_ok-marks.ensures.count) few c.first_off.ensures.within c.first_off.ensures.before c.requires.there c.requires.none in
    subst (λ n. n < length row) (sym c.in-Ok.ensures.1) below

pub returns-in-Ok-clause-free : goal.returns-in-Ok-clause-free
returns-in-Ok-clause-free c =
    let number = get nat_eq c.args.slots.now in
    let row = c.args.row.now in
    let same = c.deref.ensures.value in
    let few = subst (λ (m : List Bool). count_by (λ b. b) m ≤ count_by (has_number number) row) (sym same) c.in_ok-marks.ensures.few in
    let below = free-below number row c.deref.result.now c.first_off.result c.args.x (ap length same ∙ c.in_ok-marks.ensures.count) few c.first_off.ensures.within c.first_off.ensures.before c.requires.there c.requires.none in
    let on = subst (λ (m : List Bool). (y n : ℕ) → is_in y row ≡ true → number y ≡ Some n → n < length row → get_or m n false ≡ true) (sym same) c.in_ok-marks.ensures.on in
    λ y h e. free-of number row c.deref.result.now c.first_off.result (ap length same ∙ c.in_ok-marks.ensures.count) below c.first_off.ensures.off on y h (e ∙ ap (λ n. Some n) c.in-Ok.ensures.1)
