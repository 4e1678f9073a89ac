use Rattle.std.proofs.Common.{◌≡◌, rules, Some}
use Rattle.uc_peep.specs.Needless.{dead_rule, idle_rule, back_rule, zero_rule, repeated_rule, held_rule}
use Rattle.uc_peep.proofs.Sound.{dead_sound, idle_sound, back_sound}
use Rattle.uc_peep.proofs.ZeroTests.{zero_sound}
use Rattle.uc_peep.proofs.RepeatedTests.{repeated_sound}
use Rattle.uc_peep.proofs.HeldLiterals.{held_sound}
use Rattle.uc_peep.proofs.Settled.{if-ok-map, settled-in-turn}
use Rattle.uc_peep.proofs.Without.{needless-without}
use Rattle.uc_peep.proofs.needless.without_needless.Goals as goal

pub new-deads-requires-clause-sound : goal.new-deads-requires-clause-sound
new-deads-requires-clause-sound c = λ ws set shorter text h. dead_sound ws set shorter text (let e : dead_rule ws set ≡ Some shorter = search rules in e)

pub new-idles-requires-clause-sound : goal.new-idles-requires-clause-sound
new-idles-requires-clause-sound c = λ ws set shorter text h. idle_sound ws set shorter text (let e : idle_rule ws set ≡ Some shorter = search rules in e)

pub new-backs-requires-clause-sound : goal.new-backs-requires-clause-sound
new-backs-requires-clause-sound c = λ ws set shorter text h. back_sound ws set shorter text (let e : back_rule ws set ≡ Some shorter = search rules in e)

pub new-zeros-requires-clause-sound : goal.new-zeros-requires-clause-sound
new-zeros-requires-clause-sound c = λ ws set shorter text h. zero_sound ws set shorter text (let e : zero_rule ws set ≡ Some shorter = search rules in e)

pub new-repeats-requires-clause-sound : goal.new-repeats-requires-clause-sound
new-repeats-requires-clause-sound c = λ ws set shorter text h. repeated_sound ws set shorter text (let e : repeated_rule ws set ≡ Some shorter = search rules in e)

pub new-literals-requires-clause-sound : goal.new-literals-requires-clause-sound
new-literals-requires-clause-sound c = λ ws set shorter text h. held_sound ws set shorter text (let e : held_rule ws set ≡ Some shorter = search rules in e)

pub returns-clause-settled : goal.returns-clause-settled
returns-clause-settled c =
    if-ok-map c.peep.result _ _
    (λ q h. settled-in-turn _ _ _ _ _ _ _ _ _ _
    (λ ws set o h. let e : o ≡ dead_rule ws set = search rules in e)
    (λ ws set o h. let e : o ≡ idle_rule ws set = search rules in e)
    (λ ws set o h. let e : o ≡ back_rule ws set = search rules in e)
    (λ ws set o h. let e : o ≡ zero_rule ws set = search rules in e)
    (λ ws set o h. let e : o ≡ repeated_rule ws set = search rules in e)
    (λ ws set o h. let e : o ≡ held_rule ws set = search rules in e)
    h)
    c.peep.ensures.peeped

pub returns-clause-without : goal.returns-clause-without
returns-clause-without c =
    if-ok-map c.peep.result _ _
    (λ q h. needless-without _ _ _ _ _ _ _ _
    (λ ws set o h. let e : o ≡ dead_rule ws set = search rules in e)
    (λ ws set o h. let e : o ≡ idle_rule ws set = search rules in e)
    (λ ws set o h. let e : o ≡ back_rule ws set = search rules in e)
    (λ ws set o h. let e : o ≡ zero_rule ws set = search rules in e)
    (λ ws set o h. let e : o ≡ repeated_rule ws set = search rules in e)
    (λ ws set o h. let e : o ≡ held_rule ws set = search rules in e)
    h.rewritten)
    c.peep.ensures.peeped
